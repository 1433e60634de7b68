use Rattle.std.proofs.Common.{vec_items, sym, refl, ◌∙◌, arith}
use Rattle.rules.specs.Refusals.{begins}
use Rattle.tables.proofs.Positions.{place_inside}
use Rattle.memory_meaning.specs.Ready.{memory_state}
use Rattle.memory_meaning.proofs.Serving.{region_fits_is, protect_served}
use Rattle.memory.specs.Whole.{state}
use Rattle.memory.proofs.Kept.{whole_served}
use Rattle.memory.proofs.memory.Memory.protect_region_at.Goals as goal

pub index-requires : goal.index-requires
index-requires g c =
    omega (arith, place_inside (begins c.args.space c.args.page) (vec_items c.self.inside.parts.tables.regions) c.in_ok-at.at c.in_ok-at.ensures.found, c.self.inside.parts.tables.regions.ok.0)

pub restrict_region-requires : goal.restrict_region-requires
restrict_region-requires g c =
    let m = c.self.inside.parts in
    let fit = region_fits_is (state g.P.Pmap.view m) c.args.space c.args.page c.in_ok-at.at c.index.result.now c.in_ok-at.ensures.found c.index.ensures c.self.invariant.ready.good in
    (c.self.invariant.kept, fit)

pub protect_region-requires : goal.protect_region-requires
protect_region-requires g c =
    omega (arith, place_inside (begins c.args.space c.args.page) (vec_items c.self.inside.parts.tables.regions) c.in_ok-at.at c.in_ok-at.ensures.found, c.self.inside.parts.tables.regions.ok.0)

pub returns : goal.returns
returns g c =
    let v = g.P.Pmap.view in
    let m = c.self.inside.parts in
    let w = v c.restrict_region.new.pmap in
    rw (← c.self.view_is) (protect_served (v m.pmap) w (state v m) (memory_state w c.protect_region.new.self m.counts)
    c.args.space c.args.page c.in_ok-at.at c.index.result.now c.in_ok-at.ensures c.index.ensures refl
    c.args.protection (sym c.fits_protect.ensures ∙ c.if-not-fits_protect.false) c.in_ok-restrict_region.ensures.restricted (c.protect_region.ensures w.modified m.counts c.index.result.now))

pub invariant_of-self-2 : goal.invariant_of-self-2
invariant_of-self-2 g c = whole_served g.P.Pmap.view g.P.Pmap.kept _ _ _ _ _ c.self.invariant c.self.view_is (returns g c) c.in_ok-restrict_region.ensures.kept

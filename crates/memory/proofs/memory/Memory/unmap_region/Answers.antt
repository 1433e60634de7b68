use Rattle.std.proofs.Common.{vec_items, sym, refl, ◌∙◌, arith}
use Rattle.rules.specs.Refusals.{begins}
use Rattle.rules.proofs.Accepted.{fits}
use Rattle.tables.proofs.Positions.{place_inside}
use Rattle.memory_meaning.specs.Ready.{memory_state}
use Rattle.memory_meaning.proofs.Serving.{region_fits_is, unmap_served}
use Rattle.memory.specs.Whole.{state}
use Rattle.memory.proofs.Kept.{whole_served}
use Rattle.memory.proofs.memory.Memory.unmap_region.Goals as goal

pub index-requires : goal.index-requires
index-requires g c =
    omega (arith, place_inside (begins c.args.space c.args.page) (vec_items c.self.inside.parts.tables.regions) c.in_ok-at.at c.in_ok-at.ensures.found, c.self.inside.parts.tables.regions.ok.0)

pub remove_pages-requires : goal.remove_pages-requires
remove_pages-requires g c =
    let m = c.self.inside.parts in
    let fit = region_fits_is (state g.P.Pmap.view m) c.args.space c.args.page c.in_ok-at.at c.index.result.now c.in_ok-at.ensures.found c.index.ensures c.self.invariant.ready.good in
    let n = fits c.index.result.now fit in (c.self.invariant.kept, (n.space, n.pages))

pub remove_region-requires : goal.remove_region-requires
remove_region-requires g c =
    omega (arith, place_inside (begins c.args.space c.args.page) (vec_items c.self.inside.parts.tables.regions) c.in_ok-at.at c.in_ok-at.ensures.found, c.self.inside.parts.tables.regions.ok.0)

pub returns : goal.returns
returns g c =
    let v = g.P.Pmap.view in
    let m = c.self.inside.parts in
    let w = v c.remove_pages.new.pmap in
    rw (← c.self.view_is) (unmap_served (v m.pmap) w (state v m) (memory_state w c.remove_region.new.self m.counts)
    c.args.space c.args.page c.in_ok-at.at c.index.result.now c.in_ok-at.ensures c.index.ensures refl
    (sym c.fits_place.ensures ∙ c.if-not-fits_place.false) c.in_ok-remove_pages.ensures.removed (c.remove_region.ensures w.modified m.counts))

pub invariant_of-self-2 : goal.invariant_of-self-2
invariant_of-self-2 g c = whole_served g.P.Pmap.view g.P.Pmap.kept _ _ _ _ _ c.self.invariant c.self.view_is (returns g c) c.in_ok-remove_pages.ensures.kept

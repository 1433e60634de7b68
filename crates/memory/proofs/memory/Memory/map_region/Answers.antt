use Rattle.std.proofs.Common.{◌<◌, length, vec_items, sym, ◌∙◌, arith}
use Rattle.memory_meaning.specs.Ready.{memory_state}
use Rattle.memory_meaning.proofs.Serving.{map_served}
use Rattle.memory.proofs.Kept.{whole_served}
use Rattle.memory.proofs.memory.Memory.map_region.Goals as goal

pub returns : goal.returns
returns g c =
    let m = c.self.inside.parts in
    let v = g.P.Pmap.view m.pmap in
    let few : length (vec_items m.tables.regions) < 64 = omega (arith, m.tables.regions.ok.0, c.len.ensures, c.if-len-ge64.false) in
    rw (← c.self.view_is) (map_served v (memory_state v m.tables m.counts) c.args.region.space c.args.region.first c.args.region.count c.args.region.object c.args.region.offset c.args.region.protection
    _
    (sym c.fits_map.ensures ∙ c.if-not-fits_map.false) (sym c.overlaps.ensures ∙ c.if-overlaps.false) few
    (c.add_region.ensures v.modified m.counts))

pub invariant_of-self : goal.invariant_of-self
invariant_of-self g c = whole_served g.P.Pmap.view g.P.Pmap.kept _ _ _ _ _ c.self.invariant c.self.view_is (returns g c) c.self.invariant.kept

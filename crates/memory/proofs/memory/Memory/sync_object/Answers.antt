use Rattle.std.proofs.Common.{vec_items, refl}
use Rattle.memory_meaning.proofs.Syncs.{one_page_each, sync_served}
use Rattle.memory.specs.Whole.{seen, state}
use Rattle.memory.proofs.Kept.{whole_served}
use Rattle.memory.proofs.memory.Memory.sync_object.Goals as goal

pub store_object-requires : goal.store_object-requires
store_object-requires g c = (c.self.invariant.kept, one_page_each (state g.P.Pmap.view c.self.inside.parts) c.self.invariant.ready.good)

pub returns : goal.returns
returns g c =
    let v = g.P.Pmap.view in
    let m = c.self.inside.parts in
    let w = v c.store_object.new.pmap in
    let done = c.in_ok-stored.ensures in
    let after = c.store_object.new.tables in
    rw (← c.self.view_is) (sync_served (seen v m) w (state v m) c.args.object c.in_ok-stored.stored (vec_items after.store)
    c.self.invariant.ready.good refl done.stores.pages
    _ c.if-object-ge8.false (done.stores.rest w.modified m.counts))

pub invariant_of-self-2 : goal.invariant_of-self-2
invariant_of-self-2 g c = whole_served g.P.Pmap.view g.P.Pmap.kept _ _ _ _ _ c.self.invariant c.self.view_is (returns g c) c.in_ok-stored.ensures.kept

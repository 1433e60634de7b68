use Rattle.std.proofs.Common.{◌≡◌, ◌++◌, map, take, drop}
use Rattle.minimal.specs.Entries.{after, removed}
use Rattle.minimal.proofs.slots.Slots.remove.Given as goal

abbrev pub invariant-loop-slot : goal.invariant-loop-slot
invariant-loop-slot l =
    l.slot-items ≡ map (after (removed l.fn.place.space l.fn.place.page)) (take l.slot-index l.fn.self.list) ++ drop l.slot-index l.fn.self.list

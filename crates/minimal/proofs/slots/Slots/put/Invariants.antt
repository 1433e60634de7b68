use Rattle.std.proofs.Common.{◌≡◌, ◌++◌, map, take, drop}
use Rattle.minimal.specs.Entries.{after, vacated}
use Rattle.minimal.proofs.slots.Slots.put.Given as goal

abbrev pub invariant-loop-slot : goal.invariant-loop-slot
invariant-loop-slot l =
    l.slot-items ≡ map (after (vacated l.fn.entry.place.space l.fn.entry.place.page)) (take l.slot-index l.fn.self.list) ++ drop l.slot-index l.fn.self.list

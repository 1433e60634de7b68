use Rattle.std.proofs.Common.{◌≡◌, ◌++◌, map, take, drop}
use Rattle.minimal.specs.Entries.{after, lowered}
use Rattle.minimal.proofs.slots.Slots.lower.Given as goal

abbrev pub invariant-loop-slot : goal.invariant-loop-slot
invariant-loop-slot l =
    l.slot-items ≡ map (after (lowered l.fn.place.space l.fn.place.page)) (take l.slot-index l.fn.self.list) ++ drop l.slot-index l.fn.self.list

use Rattle.std.proofs.Common.{◌≡◌, ◌++◌, map, take, drop}
use Rattle.minimal.specs.Entries.{changed}
use Rattle.minimal.proofs.slots.change_slots.Given as goal

abbrev pub invariant-loop-slot : goal.invariant-loop-slot
invariant-loop-slot l =
    l.slots ≡ map (changed l.change) (take l.slot-index l.initial.slots) ++ drop l.slot-index l.initial.slots

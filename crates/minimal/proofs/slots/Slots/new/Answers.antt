use Rattle.minimal.proofs.Wired.{cleared_sound, cleared_placed}
use Rattle.minimal.proofs.slots.Slots.new.Goals as goal

pub invariant_of-result : goal.invariant_of-result
invariant_of-result c = record { sound = cleared_sound; placed = cleared_placed }

use Rattle.std.proofs.Common.{◌≡◌, ◌-◌}
use Rattle.x86_words.specs.State.{free_from}
use Rattle.x86_words.proofs.leaves.free_leaf.Given as goal

abbrev pub invariant-loop-step : goal.invariant-loop-step
invariant-loop-step l = free_from l.words l.leaf.number (15 - l._step) ≡ free_from l.words l.fn.next.number 9

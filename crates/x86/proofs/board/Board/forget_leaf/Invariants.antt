use Rattle.x86_words.specs.State.{in_leaf}
use Rattle.x86.specs.Reads.{state}
use Rattle.x86_words.proofs.Sweeps.{Emptying, up_to}
use Rattle.x86.proofs.board.Board.forget_leaf.Given as goal

abbrev pub invariant-loop-at : goal.invariant-loop-at
invariant-loop-at l = Emptying (state l.initial.self) (state l.self) (up_to l.at (in_leaf l.fn.leaf.number))

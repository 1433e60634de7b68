use Rattle.std.proofs.Common.{cond}
use Rattle.x86_words.specs.Words.{points_to}
use Rattle.x86_words.proofs.Sweeps.{Changing}
use Rattle.x86.proofs.board.Board.unlink.Given as goal

abbrev pub invariant-loop-word : goal.invariant-loop-word
invariant-loop-word l = Changing l.initial.directories l.directories (λ w. cond (points_to w l.leaf.number) 0 w) l.word-index

use Rattle.std.proofs.Common.{cond}
use Rattle.x86_words.specs.Words.{maps, cleaned}
use Rattle.x86_words.proofs.Sweeps.{Changing}
use Rattle.x86.proofs.board.Board.clean_all.Given as goal

abbrev pub invariant-loop-word : goal.invariant-loop-word
invariant-loop-word l = Changing l.initial.leaves l.leaves (λ w. cond (maps w l.wanted.number) (cleaned w) w) l.word-index

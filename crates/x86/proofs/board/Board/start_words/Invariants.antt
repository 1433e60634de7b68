use Rattle.std.proofs.Common.{◌≡◌, ℕ, ◌<◌, get_or}
use Rattle.x86_words.specs.State.{start_word}
use Rattle.x86.proofs.board.Board.start_words.Given as goal

abbrev pub invariant-loop-at : goal.invariant-loop-at
invariant-loop-at l = (k : ℕ) → k < l.at → get_or l.word-items k 0 ≡ start_word k

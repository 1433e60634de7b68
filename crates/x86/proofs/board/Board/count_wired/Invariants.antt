use Rattle.std.proofs.Common.{◌≡◌, ◌+◌, ◌≤◌, None}
use Rattle.pmap.specs.Tally.{tally}
use Rattle.x86_words.specs.State.{wired_beside}
use Rattle.x86.specs.Reads.{state}
use Rattle.x86.proofs.board.Board.count_wired.Given as goal

abbrev pub invariant-loop-word : goal.invariant-loop-word
invariant-loop-word l = (l.count ≤ l.word-index) × (l.count ≡ tally (wired_beside (state l.self) None) (3072 + l.word-index))

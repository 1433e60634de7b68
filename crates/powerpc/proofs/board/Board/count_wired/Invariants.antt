use Rattle.std.proofs.Common.{◌≡◌, ◌≤◌}
use Rattle.pmap.specs.Tally.{tally}
use Rattle.powerpc.specs.Reads.{state}
use Rattle.powerpc_words.specs.State.{wired_at}
use Rattle.powerpc.proofs.board.Board.count_wired.Given as goal

abbrev pub invariant-loop-mark : goal.invariant-loop-mark
invariant-loop-mark l = (l.count ≤ l.mark-index) × (l.count ≡ tally (wired_at (state l.self)) l.mark-index)

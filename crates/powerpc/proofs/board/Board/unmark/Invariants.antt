use Rattle.powerpc.specs.Reads.{state}
use Rattle.powerpc_words.proofs.SweepLaws.{Cleaning}
use Rattle.powerpc.proofs.board.Board.unmark.Given as goal

abbrev pub invariant-loop-index : goal.invariant-loop-index
invariant-loop-index l = Cleaning (state l.initial.self) l.frame.number l.index (state l.self)

use Rattle.powerpc.specs.Reads.{state}
use Rattle.powerpc_words.proofs.SweepLaws.{Dropping}
use Rattle.powerpc.proofs.board.Board.drop_all.Given as goal

abbrev pub invariant-loop-index : goal.invariant-loop-index
invariant-loop-index l = Dropping (state l.initial.self) l.frame.number l.index (state l.self)

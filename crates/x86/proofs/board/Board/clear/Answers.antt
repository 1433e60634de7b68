use Rattle.x86.specs.Reads.{state}
use Rattle.x86_words.proofs.Sweeps.{starts}
use Rattle.x86.proofs.board.Board.clear.Goals as goal

pub returns : goal.returns
returns c = starts (state c.args.self.now) (state c.start_words.new.self) (state c.clear_marks.new.self) c.start_words.ensures c.clear_marks.ensures

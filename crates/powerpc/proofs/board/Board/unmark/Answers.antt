use Rattle.std.proofs.Common.{◌+◌, sym, ◌∙◌, ap, subst, arith}
use Rattle.powerpc.specs.Reads.{state}
use Rattle.powerpc_words.specs.Changes.{clean_at}
use Rattle.powerpc_words.proofs.SweepLaws.{Cleaning, cleaning_none, cleaning_more, cleaning_all}
use Rattle.powerpc.proofs.board.Board.unmark.Goals as goal

pub loop-index-init : goal.loop-index-init
loop-index-init c = cleaning_none (state c.args.self.now) c.args.frame.number

pub loop-index-preserved : goal.loop-index-preserved
loop-index-preserved c =
    subst (Cleaning (state c.args.self.now) c.args.frame.number (c.loop-index.index + 1)) (sym (c.clean_at.ensures ∙ ap (clean_at (state c.loop-index.self) c.args.frame.number) c.new.ensures))
    (cleaning_more (state c.args.self.now) c.args.frame.number c.loop-index.index (state c.loop-index.self) c.loop-index.invariant (omega arith) c.loop-index-test.true)

pub returns : goal.returns
returns c = rw c.index.ensures (cleaning_all (state c.args.self.now) c.args.frame.number c.loop-index.index (state c.loop-index.self) c.loop-index.invariant (omega arith) c.loop-index-test.false)

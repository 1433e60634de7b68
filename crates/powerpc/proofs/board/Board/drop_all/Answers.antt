use Rattle.std.proofs.Common.{◌+◌, sym, ◌∙◌, ap, subst, arith}
use Rattle.powerpc.specs.Reads.{state}
use Rattle.powerpc_words.specs.Changes.{drop_at}
use Rattle.powerpc_words.proofs.SweepLaws.{Dropping, dropping_none, dropping_more, dropping_all}
use Rattle.powerpc.proofs.board.Board.drop_all.Goals as goal

pub loop-index-init : goal.loop-index-init
loop-index-init c = dropping_none (state c.args.self.now) c.args.frame.number

pub loop-index-preserved : goal.loop-index-preserved
loop-index-preserved c =
    subst (Dropping (state c.args.self.now) c.args.frame.number (c.loop-index.index + 1)) (sym (c.drop_at.ensures ∙ ap (drop_at (state c.loop-index.self) c.args.frame.number) c.new.ensures))
    (dropping_more (state c.args.self.now) c.args.frame.number c.loop-index.index (state c.loop-index.self) c.loop-index.invariant (omega arith) (omega arith) c.loop-index-test.true)

pub returns : goal.returns
returns c = dropping_all (state c.args.self.now) c.args.frame.number c.loop-index.index (state c.loop-index.self) c.loop-index.invariant (omega arith) (omega arith) (omega arith) (omega arith)

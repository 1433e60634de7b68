use Rattle.std.proofs.Common.{vec_items}
use Rattle.powerpc_words.proofs.MakingLaws.{start_is}
use Rattle.powerpc.proofs.board.Board.clear.Goals as goal

pub returns : goal.returns
returns c =
    start_is (vec_items c.fill.new.self) (vec_items c.fill-2.new.self) (vec_items c.fill-3.new.self) _ _ _
    c.args.self.now.sized c.args.self.now.marked c.args.self.now.pinned (c.fill.ensures.items (λ y e. e)) (c.fill-2.ensures.items (λ y e. e)) (c.fill-3.ensures.items (λ y e. e))

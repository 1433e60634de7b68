use Rattle.std.proofs.Common.{◌*◌, true, arith}
use Rattle.x86_words.specs.State.{in_leaf}
use Rattle.x86.specs.Reads.{state}
use Rattle.x86_words.proofs.Sweeps.{up_to, emptying_none, emptying_same, emptying_step, emptying_all, up_to_none, up_to_all}
use Rattle.x86_words.proofs.Sets.{in_leaf_low, in_leaf_here, in_leaf_past}
use Rattle.x86.proofs.board.Board.forget_leaf.Goals as goal

pub loop-at-init : goal.loop-at-init
loop-at-init c =
    let t = c.args.leaf.number in
    emptying_none (state c.args.self.now) (up_to (512 * t) (in_leaf t)) (up_to_none (in_leaf t) (512 * t) (in_leaf_low t))

pub loop-at-preserved : goal.loop-at-preserved
loop-at-preserved c =
    let t = c.args.leaf.number in
    let i = c.loop-at.at in
    emptying_step (state c.args.self.now) (state c.loop-at.self) (state c.forget.new.self) (in_leaf t) i true c.loop-at.invariant (omega arith) (omega arith) (omega arith)
    (in_leaf_here t i (omega arith) (omega arith)) c.forget.ensures

pub returns : goal.returns
returns c =
    let st = state c.args.self.now in
    let u = state c.loop-at.self in
    let t = c.args.leaf.number in
    emptying_all st u (in_leaf t) (omega arith) (omega arith)
    (emptying_same st u (up_to c.loop-at.at (in_leaf t)) (in_leaf t) (up_to_all (in_leaf t) c.loop-at.at (λ k h. in_leaf_past t k (omega arith))) c.loop-at.invariant)

use Rattle.std.proofs.Common.{◌<◌, sym, ◌∙◌, rules, arith}
use Rattle.x86.specs.Reads.{state}
use Rattle.x86.proofs.Wirings.{beside_wired}
use Rattle.x86.proofs.board.Board.count_beside.Goals as goal

pub overflow_sub-result : goal.overflow_sub-result
overflow_sub-result c =
    let low : c.in-Some.met.leaf < 8192 = search rules in
    let split = beside_wired (state c.args.self.now) c.in-Some.met low (sym c.is_wired_leaf.ensures ∙ c.if-is_wired_leaf.true) in
    omega (arith, split)

use Rattle.std.proofs.Common.{◌<◌, sym, ◌∙◌, rules, arith}
use Rattle.powerpc.specs.Reads.{state}
use Rattle.powerpc.proofs.Wirings.{beside_wired}
use Rattle.powerpc.proofs.board.Board.count_beside.Goals as goal

pub overflow_sub-result : goal.overflow_sub-result
overflow_sub-result c =
    let low : c.in-Some.slot < 8192 = search rules in
    let split = beside_wired (state c.args.self.now) c.in-Some.slot 8192 low (sym c.is_wired.ensures ∙ c.if-is_wired.true) in
    omega (arith, split)

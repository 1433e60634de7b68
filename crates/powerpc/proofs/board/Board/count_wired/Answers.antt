use Rattle.std.proofs.Common.{false, get_or, sym, ap, ◌∙◌, arith}
use Rattle.pmap.proofs.Crowds.{tally_none, tally_hit, tally_miss}
use Rattle.powerpc.specs.Reads.{state}
use Rattle.powerpc_words.specs.State.{wired_at}
use Rattle.powerpc.proofs.board.Board.count_wired.Goals as goal
use Rattle.powerpc.proofs.board.Board.count_wired.Goals.{then-mark, else-mark}

pub loop-mark-init : goal.loop-mark-init
loop-mark-init c = (omega arith, sym (tally_none (wired_at (state c.args.self.now))))

pub loop-mark-preserved : goal.loop-mark-preserved
loop-mark-preserved c =
    let test = wired_at (state c.args.self.now) in
    let i = c.loop-mark.mark-index in
    let same = ap (λ xs. get_or xs i false) c.deref-mark-items.ensures.value in
    elim c.if-mark.branch [
      | then-mark w ↦ (omega (arith, w.count-is), omega (arith, w.count-is, tally_hit test i (sym same ∙ w.if-mark.true)))
      | else-mark w ↦ (omega (arith, w.count-is), omega (arith, w.count-is, tally_miss test i (sym same ∙ w.if-mark.false)))
    ]

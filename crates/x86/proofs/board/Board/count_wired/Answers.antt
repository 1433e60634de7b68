use Rattle.std.proofs.Common.{◌≡◌, ◌+◌, ◌-◌, None, length, take, drop, get_or, leb, sym, ap, ◌∙◌, arith}
use Rattle.std.proofs.lemmas.Bool.{and_left, lt-leb}
use Rattle.std.proofs.lemmas.List.{get_or-drop, get_or-take}
use Rattle.pmap.specs.Tally.{tally}
use Rattle.pmap.proofs.Crowds.{tally_hit, tally_miss}
use Rattle.slots.proofs.Tally.{tally_zero}
use Rattle.x86_words.specs.Words.{wired}
use Rattle.x86_words.specs.State.{wired_beside}
use Rattle.x86.specs.Reads.{state}
use Rattle.x86.proofs.Wirings.{beside_none}
use Rattle.x86.proofs.board.Board.count_wired.Goals as goal
use Rattle.x86.proofs.board.Board.count_wired.Goals.{then-has, else-has}

pub loop-word-init : goal.loop-word-init
loop-word-init c =
    (omega arith, sym (tally_zero (wired_beside (state c.args.self.now) None) 3072 (λ k h. and_left (leb 3072 k) _ (lt-leb 3072 k h))))

pub loop-word-preserved : goal.loop-word-preserved
loop-word-preserved c =
    let st = state c.args.self.now in
    let test = wired_beside st None in
    let i = c.loop-word.word-index in
    let here : wired (get_or (take (length c.deref.result.now - 3072) (drop 3072 c.deref.result.now)) i 0) ≡ test (3072 + i) =
    ap wired (get_or-take (length c.deref.result.now - 3072) (drop 3072 c.deref.result.now) i 0 (omega arith) ∙ get_or-drop 3072 c.deref.result.now i 0 ∙ ap (λ xs. get_or xs (3072 + i) 0) c.deref.ensures.value)
    ∙ sym (beside_none st (3072 + i) (omega arith)) in
    let next : 3072 + (i + 1) ≡ 3072 + i + 1 = omega arith in
    elim c.if-has.branch [
      | then-has w ↦ (omega (arith, w.count-is), w.count-is ∙ ap (λ n. n + 1) c.loop-word.invariant.1 ∙ sym (ap (tally test) next ∙ tally_hit test (3072 + i) (sym here ∙ sym c.has.ensures ∙ w.if-has.true)))
      | else-has w ↦ (omega (arith, w.count-is), w.count-is ∙ c.loop-word.invariant.1 ∙ sym (ap (tally test) next ∙ tally_miss test (3072 + i) (sym here ∙ sym c.has.ensures ∙ w.if-has.false)))
    ]

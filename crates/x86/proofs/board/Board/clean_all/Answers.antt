use Rattle.std.proofs.Common.{ℕ, get_or, cond, sym, refl, ◌∙◌, arith}
use Rattle.std.proofs.lemmas.Bool.{cond-true, cond-false}
use Rattle.std.proofs.lemmas.List.{with_items_is}
use Rattle.x86_words.specs.Words.{maps, cleaned}
use Rattle.x86_words.specs.State.{bits_off}
use Rattle.x86.specs.Reads.{state}
use Rattle.x86_words.proofs.Sweeps.{changing_none, changing_more, same_state}
use Rattle.x86_words.proofs.Sets.{unmarked_all}
use Rattle.x86.proofs.board.Board.clean_all.Goals as goal
use Rattle.x86.proofs.board.Board.clean_all.Goals.{then-maps, else-maps}

pub loop-word-init : goal.loop-word-init
loop-word-init c = changing_none _ (λ w. cond (maps w c.args.wanted.number) (cleaned w) w)

pub loop-word-preserved : goal.loop-word-preserved
loop-word-preserved c =
    let f = c.args.wanted.number in
    let part = c.loop-word.leaves in
    let i = c.loop-word.word-index in
    let x : ℕ = get_or part i 0 in
    let change = λ (w : ℕ). cond (maps w f) (cleaned w) w in
    elim c.if-maps.branch [
      | then-maps w ↦ changing_more _ change part c.if-maps.leaves i w.without.result c.loop-word.invariant (omega arith) (w.without.ensures ∙ sym (cond-true (maps x f) (cleaned x) x (sym c.maps.ensures ∙ w.if-maps.true))) w.leaves-is
      | else-maps w ↦ changing_more _ change part c.if-maps.leaves i x c.loop-word.invariant (omega arith) (sym (cond-false (maps x f) (cleaned x) x (sym c.maps.ensures ∙ w.if-maps.false))) w.leaves-is
    ]

pub returns : goal.returns
unfolding bits_off
returns c = same_state
    (with_items_is c.args.self.now.words _ (omega arith)
    ∙ unmarked_all (state c.args.self.now) c.args.wanted.number c.deref_mut.result.now c.loop-word.leaves c.loop-word.word-index c.deref_mut.ensures.value (omega arith) (omega arith) (omega arith) c.loop-word.invariant)
    refl refl

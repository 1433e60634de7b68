-- The second word or the wired mark of a slot changes, its place and frame stay.
use Rattle.std.proofs.lemmas.Bool.Decides.{nat_tests}
use Rattle.std.proofs.Common.{◌≡◌, ℕ, ◌+◌, ◌*◌, ◌<◌, Bool, true, false, cond, eqb, Some, sym, refl, ap, ◌∙◌, subst, ⊎_elim, arith}
use Rattle.std.proofs.lemmas.Bool.{cases_eq, cond-true, cond-false, eq-eqb, ne_eqb, both_ways}
use Rattle.std.proofs.lemmas.List.{get_or-set_same, get_or-set_other, length-set}
use Rattle.slots.specs.Changes.{Rewritten}
use Rattle.powerpc_words.specs.Fields.{frame_of, changed}
use Rattle.powerpc_words.specs.State.{State, first, second, wired_at}
use Rattle.powerpc_words.specs.Changes.{reworded, unwired_at}
use Rattle.powerpc_words.proofs.HashLaws.{entry_above, space_in, page_in}
use Rattle.powerpc_pmap.specs.Kept.{At, Shaped, Kept}
use Rattle.powerpc_pmap.proofs.Decoded.{entry_at, slot_at, table, slot_used, slot_same, at_used}
use Rattle.powerpc_pmap.proofs.Keeping.{Tame, same, recolored, kept_tame}

module _ (st : State) (kept : Kept st) (s p : ℕ) (side : Bool) (k : ℕ) (at : At st s p side k) where
  above : 0 < first st k
  above = omega (arith, at.word, entry_above s p side)

  -- ---- the second word
  module _ (b : ℕ) (frame : frame_of b ≡ frame_of (second st k)) where
    word_first : (j : ℕ) → first (reworded st k b) j ≡ first st j
    word_first j = get_or-set_other st.words (2 * k + 1) (2 * j) b 0 (λ e. omega arith)

    word_here : second (reworded st k b) k ≡ b
    word_here = grind (arith, nat_tests, get_or-set_same)

    word_there : (j : ℕ) → (j ≡ k → ⊥) → second (reworded st k b) j ≡ second st j
    word_there j far = grind (arith, nat_tests, get_or-set_other)

    pub reworded_keeps : (Shaped (second st k) → Shaped b) → Kept (reworded st k b)
    reworded_keeps shape = kept_tame st (reworded st k b) kept
        (λ j _. ⊎_elim
        (λ (q : j ≡ k). subst (Tame st (reworded st k b)) (sym q) (recolored (word_first k) above (λ x. subst Shaped (sym word_here) (shape x)) (λ t. t)))
        (λ (q : j ≡ k → ⊥). same (word_first j) (word_there j q) refl)
        (cases_eq j k))
        (length-set st.words (2 * k + 1) b) refl refl kept.next

    pub reworded_table : (changed (second st k) ≡ true → changed b ≡ true) → Rewritten (table st) (table (reworded st k b)) k (entry_at st k) (entry_at (reworded st k b) k)
    reworded_table stays = record {
      was = at_used st k s p side at;
      slots = λ j. ⊎_elim
          (λ (q : j ≡ k). (subst (λ x. slot_at (reworded st k b) x ≡ cond (eqb x k) (Some (entry_at (reworded st k b) k)) (slot_at st x)) (sym q)
          (slot_used (reworded st k b) k at.below (omega (arith, above, word_first k)) ∙ sym (cond-true _ _ _ (eq-eqb k k refl)))))
          (λ (q : j ≡ k → ⊥). slot_same st (reworded st k b) j (word_first j) (word_there j q) refl ∙ sym (cond-false _ _ _ (ne_eqb j k q)))
          (cases_eq j k);
      space = ap space_in (word_first k);
      page = ap (page_in k) (word_first k);
      frame = ap frame_of word_here ∙ frame;
      stays = λ t. ap changed word_here ∙ stays t;
      marks = λ f. refl;
    }

  -- ---- the wired mark
  off_here : wired_at (unwired_at st (Some k)) k ≡ false
  off_here = grind (arith, nat_tests, get_or-set_same)

  off_there : (j : ℕ) → (j ≡ k → ⊥) → wired_at (unwired_at st (Some k)) j ≡ wired_at st j
  off_there j far = get_or-set_other st.wired k j false false far

  pub unwired_keeps : Kept (unwired_at st (Some k))
  unwired_keeps = kept_tame st (unwired_at st (Some k)) kept
      (λ j _. ⊎_elim
      (λ (q : j ≡ k). subst (Tame st (unwired_at st (Some k))) (sym q) (recolored refl above (λ x. x) (λ t. absurd (both_ways _ off_here t))))
      (λ (q : j ≡ k → ⊥). same refl refl (off_there j q))
      (cases_eq j k))
      refl refl (length-set st.wired k false) kept.next

  pub unwired_table : Rewritten (table st) (table (unwired_at st (Some k))) k (entry_at st k) (entry_at (unwired_at st (Some k)) k)
  unwired_table = grind (arith, nat_tests, at_used, slot_used, above, slot_same, off_there)

-- The mark of a frame and the C bits of its slots go off.
use Rattle.std.proofs.lemmas.Bool.Decides.{nat_tests}
use Rattle.std.proofs.Common.{◌≡◌, ℕ, ◌+◌, ◌*◌, ◌/◌, ◌%◌, ◌<◌, Bool, true, false, cond, ◌&&◌, eqb, length, get_or, sym, refl, ap, ◌∙◌, subst, ⊎_elim, arith}
use Rattle.std.proofs.lemmas.Bool.{cases_Bool, cond-true, cond-false, eq-eqb, ne_eqb, and_right}
use Rattle.std.proofs.lemmas.List.FromFn.{length-map-range_with_len, get_or-map-range_with_len}
use Rattle.std.proofs.lemmas.List.{get_or-set_same, get_or-set_other, length-set}
use Rattle.slots.specs.Changes.{Cleaned, clean_entry}
use Rattle.powerpc_words.specs.Fields.{frame_of, protection_of, changed, cleaned}
use Rattle.powerpc_words.specs.State.{State, first, second, wired_at}
use Rattle.powerpc_words.specs.Changes.{maps, clean_word, unmarked}
use Rattle.powerpc_words.proofs.HashLaws.{space_in, page_in}
use Rattle.powerpc_pmap.specs.Kept.{Shaped, Kept}
use Rattle.powerpc_pmap.proofs.Decoded.{entry_at, table, slot_used, slot_unused, slot_past}
use Rattle.powerpc_pmap.proofs.Keeping.{same, recolored, kept_tame}
use Rattle.powerpc_pmap.proofs.Colors.{cleaned_shaped, cleaned_frame, cleaned_protection, cleaned_changed}
use Rattle.powerpc_pmap.proofs.Dropping.{used_maps}

maps_above : (st : State) (k f : ℕ) → maps st.words f k ≡ true → 0 < first st k
unfolding maps
maps_above st k f t = grind (arith, nat_tests)

module _ (st : State) (kept : Kept st) (f : ℕ) where
  clean_first : (k : ℕ) → k < 8192 → first (unmarked st f) k ≡ first st k
  unfolding unmarked clean_word
  clean_first k b =
      get_or-map-range_with_len (clean_word st.words f) 0 16384 (2 * k) (2 * k) 0 (omega arith) (omega arith)
      ∙ cond-false _ _ _ (and_right (maps st.words f (2 * k / 2)) _ (ne_eqb (2 * k % 2) 1 (omega arith)))

  clean_second : (k : ℕ) → k < 8192 → second (unmarked st f) k ≡ cond (maps st.words f k) (cleaned (second st k)) (second st k)
  unfolding unmarked clean_word
  clean_second k b =
      let half : (2 * k + 1) / 2 ≡ k = omega arith in
      get_or-map-range_with_len (clean_word st.words f) 0 16384 (2 * k + 1) (2 * k + 1) 0 (omega arith) (omega arith)
      ∙ ap (λ t. cond (maps st.words f ((2 * k + 1) / 2) && t) (cleaned (second st k)) (second st k)) (eq-eqb ((2 * k + 1) % 2) 1 (omega arith))
      ∙ ap (λ t. cond t (cleaned (second st k)) (second st k)) (and_on (maps st.words f ((2 * k + 1) / 2)) ∙ ap (maps st.words f) half)
    where
      and_on : (c : Bool) → (c && true) ≡ c
      and_on true = refl
      and_on false = refl

  clean_wired : (k : ℕ) → wired_at (unmarked st f) k ≡ wired_at st k
  unfolding unmarked
  clean_wired k = refl

  pub unmarked_keeps : Kept (unmarked st f)
  unfolding unmarked
  unmarked_keeps = kept_tame st (unmarked st f) kept
      (λ k b. ⊎_elim
      (λ (t : maps st.words f k ≡ true). recolored (clean_first k b) (maps_above st k f t) (λ x. subst Shaped (sym (clean_second k b ∙ cond-true _ _ _ t)) (cleaned_shaped (second st k) x)) (λ w. sym (clean_wired k) ∙ w))
      (λ (t : maps st.words f k ≡ false). same (clean_first k b) (clean_second k b ∙ cond-false _ _ _ t) (clean_wired k))
      (cases_Bool (maps st.words f k)))
      (length-map-range_with_len (clean_word st.words f) 0 16384 ∙ sym kept.words)
      (length-set st.marks f false) refl kept.next

  -- an entry by its parts
  entry_is : (k w : ℕ) → k < 8192 → second (unmarked st f) k ≡ w → entry_at (unmarked st f) k ≡
      record { space = space_in (first st k); page = page_in k (first st k); frame = frame_of w; protection = protection_of w; wired = wired_at st k; dirty = changed w }
  entry_is k w b e = grind (arith, nat_tests, clean_first, clean_wired)

  clean_entry_is : (k : ℕ) → k < 8192 → 0 < first st k → entry_at (unmarked st f) k ≡ cond (eqb (frame_of (second st k)) f) (clean_entry (entry_at st k)) (entry_at st k)
  clean_entry_is k b h = grind (arith, nat_tests, entry_is, clean_second, used_maps, cleaned_frame, cleaned_protection, cleaned_changed)

  mark_off : f < length st.marks → get_or (unmarked st f).marks f false ≡ false
  unfolding unmarked
  mark_off fits = get_or-set_same st.marks f false false fits

  mark_there : (g : ℕ) → (g ≡ f → ⊥) → get_or (unmarked st f).marks g false ≡ get_or st.marks g false
  unfolding unmarked
  mark_there g far = get_or-set_other st.marks f g false false far

  pub unmarked_table : f < 256 → Cleaned (table st) (table (unmarked st f)) f
  unmarked_table fits = grind (arith, nat_tests, slot_used, clean_first, clean_entry_is, slot_unused, slot_past, mark_off, mark_there)

-- All slots of a frame are emptied.
use Rattle.std.proofs.lemmas.Bool.Decides.{nat_tests}
use Rattle.std.proofs.Common.{◌≡◌, ℕ, ◌+◌, ◌*◌, ◌/◌, ◌<◌, ◌≤◌, Bool, true, false, cond, eqb, get_or, None, Option, sym, refl, ap, ◌∙◌, subst, inl, inr, ⊎_elim, arith}
use Rattle.std.proofs.lemmas.Bool.{cases_Bool, cases_eq, cases_lt, cond-true, cond-false, eq-eqb}
use Rattle.std.proofs.lemmas.List.FromFn.{length-map-range_with_len, get_or-map-range_with_len}
use Rattle.std.proofs.lemmas.List.{get_or-set_same, get_or-set_other, length-set}
use Rattle.slots.specs.Slots.{Entry}
use Rattle.slots.specs.Changes.{Emptied}
use Rattle.powerpc_words.specs.Fields.{frame_of}
use Rattle.powerpc_words.specs.State.{State, first, second, wired_at}
use Rattle.powerpc_words.specs.Changes.{maps, modified_in, dropped_word, dropped_wired, dropped}
use Rattle.powerpc_words.proofs.SweepLaws.{maps_frame, modified_mark, modified_slot}
use Rattle.powerpc_pmap.specs.View.{view_of}
use Rattle.powerpc_pmap.specs.Kept.{Unused, Kept}
use Rattle.powerpc_pmap.proofs.Decoded.{table, slot_unused, slot_past, slot_some, slot_same}
use Rattle.powerpc_pmap.proofs.Showing.{dirty_slot, shows}
use Rattle.powerpc_pmap.proofs.Keeping.{same, gone, kept_tame}

-- a slot in use maps its own frame
pub used_maps : (st : State) (k f : ℕ) → 0 < first st k → maps st.words f k ≡ eqb (frame_of (second st k)) f
unfolding maps
used_maps st k f h = grind (arith, nat_tests)

module _ (st : State) (kept : Kept st) (f : ℕ) where
  dropped_first : (k : ℕ) → k < 8192 → first (dropped st f) k ≡ cond (maps st.words f k) 0 (first st k)
  unfolding dropped dropped_word
  dropped_first k b =
      let half : 2 * k / 2 ≡ k = omega arith in
      get_or-map-range_with_len (dropped_word st.words f) 0 16384 (2 * k) (2 * k) 0 (omega arith) (omega arith)
      ∙ ap (λ n. cond (maps st.words f n) 0 (first st k)) half

  dropped_second : (k : ℕ) → k < 8192 → second (dropped st f) k ≡ cond (maps st.words f k) 0 (second st k)
  unfolding dropped dropped_word
  dropped_second k b =
      let half : (2 * k + 1) / 2 ≡ k = omega arith in
      get_or-map-range_with_len (dropped_word st.words f) 0 16384 (2 * k + 1) (2 * k + 1) 0 (omega arith) (omega arith)
      ∙ ap (λ n. cond (maps st.words f n) 0 (second st k)) half

  dropped_wired_is : (k : ℕ) → k < 8192 → wired_at (dropped st f) k ≡ cond (maps st.words f k) false (wired_at st k)
  unfolding dropped dropped_wired
  dropped_wired_is k b = get_or-map-range_with_len (dropped_wired st.words st.wired f) 0 8192 k k false b (omega arith)

  dropped_here : (k : ℕ) → k < 8192 → maps st.words f k ≡ true → Unused (dropped st f) k
  dropped_here k b t = grind (arith, nat_tests, dropped_first, dropped_second, dropped_wired_is)

  pub dropped_keeps : Kept (dropped st f)
  unfolding dropped
  dropped_keeps = kept_tame st (dropped st f) kept
      (λ k b. ⊎_elim
      (λ (t : maps st.words f k ≡ true). gone (dropped_here k b t))
      (λ (t : maps st.words f k ≡ false). same (dropped_first k b ∙ cond-false _ _ _ t) (dropped_second k b ∙ cond-false _ _ _ t) (dropped_wired_is k b ∙ cond-false _ _ _ t))
      (cases_Bool (maps st.words f k)))
      (length-map-range_with_len (dropped_word st.words f) 0 16384 ∙ sym kept.words)
      (length-set st.marks f (modified_in st f))
      (length-map-range_with_len (dropped_wired st.words st.wired f) 0 8192 ∙ sym kept.wired)
      kept.next

  module _ (f_fits : f < 256) where
    mark_here : get_or (dropped st f).marks f false ≡ modified_in st f
    unfolding dropped
    mark_here = grind (arith, nat_tests, get_or-set_same)

    mark_there : (g : ℕ) → (g ≡ f → ⊥) → get_or (dropped st f).marks g false ≡ get_or st.marks g false
    unfolding dropped
    mark_there g far = get_or-set_other st.marks f g (modified_in st f) false far

    pub dropped_table : Emptied (table st) (table (dropped st f)) (maps st.words f)
    unfolding view_of
    dropped_table = record {
      slots = λ k. ⊎_elim
          (λ (b : k < 8192). ⊎_elim
          (λ (t : maps st.words f k ≡ true). slot_unused (dropped st f) k (dropped_here k b t).first ∙ sym (cond-true _ _ _ t))
          (λ (t : maps st.words f k ≡ false). slot_same st (dropped st f) k (dropped_first k b ∙ cond-false _ _ _ t) (dropped_second k b ∙ cond-false _ _ _ t) (dropped_wired_is k b ∙ cond-false _ _ _ t) ∙ sym (cond-false _ _ _ t))
          (cases_Bool (maps st.words f k)))
          (λ (b : 8192 ≤ k). slot_past (dropped st f) k b ∙ sym (none_either (maps st.words f k) (slot_past st k b)))
          (cases_lt k 8192);
      kept = λ g m. ⊎_elim
          (λ (q : g ≡ f). (subst (λ x. get_or (dropped st f).marks x false ≡ true) (sym q) (mark_here ∙ sym (modified_mark st f (subst (λ x. get_or st.marks x false ≡ true) q m)))))
          (λ (q : g ≡ f → ⊥). mark_there g q ∙ m)
          (cases_eq g f);
      merged = λ g x.
          let r = slot_some st x.at x.entry x.found in
          let mine = maps_frame st.words f x.at x.goes in
          let g_is : g ≡ f = sym x.frame ∙ sym (ap (λ z. z.frame) r.2) ∙ mine in
          subst (λ y. get_or (dropped st f).marks y false ≡ true) (sym g_is)
          (mark_here ∙ sym (modified_slot st f x.at r.0 (dirty_slot st x.at f r.1 mine (ap (λ z. z.dirty) r.2 ∙ x.on))));
      only = λ g m. ⊎_elim
          (λ (q : g ≡ f). ⊎_elim
          (λ n. inl (subst (λ x. get_or st.marks x false ≡ true) (sym q) n))
          (λ x. let r = slot_some st x.at x.entry x.found in
          inr (record { at = x.at; entry = x.entry; found = x.found; goes = used_maps st x.at f r.1 ∙ eq-eqb _ _ (ap (λ z. z.frame) r.2 ∙ x.frame); frame = x.frame ∙ sym q; on = x.on }))
          ((shows st kept).told f (sym mark_here ∙ subst (λ x. get_or (dropped st f).marks x false ≡ true) q m)))
          (λ (q : g ≡ f → ⊥). inl (sym (mark_there g q) ∙ m))
          (cases_eq g f);
    }
      where
        none_either : (t : Bool) {o : Option Entry} → o ≡ None → cond t None o ≡ None
        none_either true e = refl
        none_either false e = e

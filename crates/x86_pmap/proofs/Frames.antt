-- The calls that name a frame: drop and clear-modified.
use Rattle.std.proofs.Common.{◌≡◌, ℕ, ◌+◌, ◌*◌, ◌%◌, ◌<◌, ◌≤◌, Bool, true, false, cond, ◌&&◌, eqb, length, get_or, set, Some, None, sym, refl, ap, ◌∙◌, subst, inl, inr, ⊎_elim, arith}
use Rattle.std.proofs.lemmas.Bool.{and_right, and_parts, and_left, leb-true, le-leb, lt-leb, cond-true, cond-false, both_ways, cases_Bool}
use Rattle.std.proofs.lemmas.List.{get_or-set_same, get_or-set_other, length-set}
use Rattle.std.proofs.lemmas.List.FromFn.{length-map-range_with_len}
use Rattle.pmap.specs.Meaning.{Dropped, Unmarked}
use Rattle.slots.specs.Slots.{Entry}
use Rattle.slots.specs.Changes.{cleaned as cleaned_slot, clean_entry}
use Rattle.slots.proofs.Shown.{emptied_drops, cleaned_unmarks}
use Rattle.x86_words.specs.Words.{present, wired, frame_of, maps, cleaned}
use Rattle.x86_words.specs.State.{State, word_at, is_leaf, mapping, emptied, dropped, unmarked_word, bits_off, unmarked}
use Rattle.x86_words.proofs.Sweeps.{emptied_emptying, emptied_words, emptied_marks, rewritten_word}
use Rattle.x86_pmap.specs.Kept.{Kept, Mapped}
use Rattle.x86_pmap.specs.Views.{view_of}
use Rattle.x86_pmap.proofs.Fields.{mapped_present, mapped_cleaned, cleaned_present, cleaned_writable, cleaned_dirty, cleaned_wired, cleaned_frame, zero_present, zero_wired}
use Rattle.x86_pmap.proofs.Tables.{table, slot_of, slot_in, entry_of, Reaches, slot_used, table_shows, table_single}
use Rattle.x86_pmap.proofs.Keeps.{kin_kept, fewer, kept_marks}
use Rattle.x86_pmap.proofs.Follows.{pages_in, pages_in_is, emptying_slots, both_slots}

-- a set of leaf positions is emptied
module _ (st : State) (K : Kept st) (gone : ℕ → Bool) (leaf : (k : ℕ) → gone k ≡ true → 3072 ≤ k) where
  pub emptied_word : (k : ℕ) → word_at (emptied st gone) k ≡ cond (gone k) 0 (word_at st k)
  emptied_word k = (emptied_emptying st gone K.size).words k

  pub emptied_upper : (k : ℕ) → k < 3072 → word_at (emptied st gone) k ≡ word_at st k
  emptied_upper k h = emptied_word k ∙ ⊎_elim
      (λ (e : gone k ≡ true). let low = leaf k e in absurd (omega arith))
      (λ (e : gone k ≡ false). cond-false (gone k) 0 (word_at st k) e)
      (cases_Bool (gone k))

  emptied_wired : (k : ℕ) → wired (word_at (emptied st gone) k) ≡ true → wired (word_at st k) ≡ true
  emptied_wired k e = ⊎_elim
      (λ (g : gone k ≡ true). absurd (both_ways (wired (word_at (emptied st gone) k)) (ap wired (emptied_word k ∙ cond-true (gone k) 0 (word_at st k) g) ∙ zero_wired) e))
      (λ (g : gone k ≡ false). ap wired (sym (emptied_word k ∙ cond-false (gone k) 0 (word_at st k) g)) ∙ e)
      (cases_Bool (gone k))

  pub emptied_kept : Kept (emptied st gone)
  emptied_kept = kin_kept st (emptied st gone) K
      (record {
        size = emptied_words st gone K.size;
        marked = emptied_marks st gone K.size;
        next = (emptied_emptying st gone K.size).next;
        upper = λ k h. inl (emptied_upper k h);
        lower = λ k p h. ⊎_elim
            (λ (g : gone k ≡ true). inl (emptied_word k ∙ cond-true (gone k) 0 (word_at st k) g))
            (λ (g : gone k ≡ false). rw (emptied_word k ∙ cond-false (gone k) 0 (word_at st k) g) (K.leaves k p h))
            (cases_Bool (gone k));
      })
      (fewer st (emptied st gone) K (λ k p h e. emptied_wired k e))

-- a leaf word in use maps its frame
maps_mapped : (w f : ℕ) → present w ≡ true → maps w f ≡ eqb (frame_of w) f
maps_mapped w f e = ap (λ b. b && eqb (frame_of w) f) e

module _ (st : State) (K : Kept st) (f : ℕ) where
  mapping_leaf : (k : ℕ) → mapping st f k ≡ true → 3072 ≤ k
  mapping_leaf k e = leb-true 3072 k (and_parts (is_leaf k) (maps (word_at st k) f) e).0

  mapping_at : (k : ℕ) → 3072 ≤ k → mapping st f k ≡ maps (word_at st k) f
  mapping_at k h = ap (λ b. b && maps (word_at st k) f) (le-leb 3072 k h)

  -- drop
  pub drop_means : Kept (dropped st f) × Dropped (view_of st) (view_of (dropped st f)) f
  drop_means = (
    L,
    emptied_drops (table st) (table u) (view_of st) (view_of u) (table_shows st K) (table_shows u L) (table_single st K) (pages_in st gone)
        (emptying_slots st u K L (λ k h. inl (emptied_upper st K gone mapping_leaf k h)) gone mapping_leaf (emptied_emptying st gone K.size)) f exact,
  )
    where
      gone : ℕ → Bool
      gone = mapping st f

      u : State
      u = dropped st f

      L : Kept u
      L = emptied_kept st K gone mapping_leaf

      exact : (j : ℕ) (e : Entry) → slot_of st j ≡ Some e → pages_in st gone j ≡ eqb e.frame f
      exact j e h =
          let w = slot_used st K j e h in
          let r = w.reaches in
          pages_in_is st gone j w.leaf r ∙ mapping_at (512 * w.leaf + j % 512) (omega (arith, r.low)) ∙ maps_mapped _ f w.on ∙ sym (ap (λ z. eqb z.frame f) w.is)

  -- clear-modified
  off_word : (k : ℕ) → k < 8192 → word_at (bits_off st f) k ≡ unmarked_word st f k
  unfolding bits_off
  off_word k h = rewritten_word (unmarked_word st f) k h

  off_upper : (k : ℕ) → k < 3072 → word_at (bits_off st f) k ≡ word_at st k
  off_upper k h = off_word k (omega arith) ∙ cond-false (mapping st f k) _ _ (and_left (is_leaf k) _ (lt-leb 3072 k h))

  off_size : length (bits_off st f).words ≡ 8192
  unfolding bits_off
  off_size = length-map-range_with_len (unmarked_word st f) 0 8192

  off_marks : (bits_off st f).marks ≡ st.marks
  unfolding bits_off
  off_marks = refl

  off_next : (bits_off st f).next ≡ st.next
  unfolding bits_off
  off_next = refl

  off_mapped : (w : ℕ) (b : Bool) → Mapped w → Mapped (cond b (cleaned w) w)
  off_mapped w true m = mapped_cleaned w m
  off_mapped w false m = m

  off_wired : (w : ℕ) (b : Bool) → wired (cond b (cleaned w) w) ≡ wired w
  off_wired w true = cleaned_wired w
  off_wired w false = refl

  off_zero : (k : ℕ) → k < 8192 → word_at st k ≡ 0 → word_at (bits_off st f) k ≡ 0
  off_zero k h z = off_word k h ∙ cond-false (mapping st f k) _ _ (and_right (is_leaf k) _ (ap (λ w. maps w f) z ∙ and_left (present 0) _ zero_present)) ∙ z

  off_kept : Kept (bits_off st f)
  off_kept = kin_kept st (bits_off st f) K
      (record {
        size = off_size;
        marked = ap length off_marks ∙ K.marked;
        next = off_next;
        upper = λ k h. inl (off_upper k h);
        lower = λ k p h. ⊎_elim
            (λ z. inl (off_zero k h z))
            (λ m. inr (subst Mapped (sym (off_word k h)) (off_mapped (word_at st k) (mapping st f k) m.0), m.1))
            (K.leaves k p h);
      })
      (fewer st (bits_off st f) K (λ k p h e. sym (ap wired (off_word k h) ∙ off_wired (word_at st k) (mapping st f k)) ∙ e))

  clean_entry_is : (n w : ℕ) → entry_of n (cleaned w) ≡ clean_entry (entry_of n w)
  clean_entry_is n w = simp (cleaned_frame w, cleaned_writable w, cleaned_wired w, cleaned_dirty w)

  clean_slot : (n w : ℕ) (b : Bool) → present w ≡ true → eqb (frame_of w) f ≡ b → slot_in n (cond b (cleaned w) w) ≡ cleaned_slot f (slot_in n w)
  clean_slot n w true on e =
      cond-true _ (Some (entry_of n (cleaned w))) None (cleaned_present w ∙ on) ∙ ap Some (clean_entry_is n w ∙ sym (cond-true (eqb (frame_of w) f) (clean_entry (entry_of n w)) (entry_of n w) e))
      ∙ sym (ap (cleaned_slot f) (cond-true _ (Some (entry_of n w)) None on))
  clean_slot n w false on e =
      cond-true _ (Some (entry_of n w)) None on ∙ ap Some (sym (cond-false (eqb (frame_of w) f) (clean_entry (entry_of n w)) (entry_of n w) e))
      ∙ sym (ap (cleaned_slot f) (cond-true _ (Some (entry_of n w)) None on))

  pub unmark_means : f < 256 → Kept (unmarked st f) × Unmarked (view_of st) (view_of (unmarked st f)) f
  unmark_means low = (
    L,
    cleaned_unmarks (table st) (table u) (view_of st) (view_of u) (table_shows st K) (table_shows u L) f
        (record {
          slots = both_slots st u K L (λ k h. inl (off_upper k h)) (λ n a b. b ≡ cleaned_slot f a) (λ n. refl) reach;
          off = get_or-set_same (bits_off st f).marks f false false (omega (arith, ap length off_marks, K.marked));
          others = λ g far. get_or-set_other (bits_off st f).marks f g false false far ∙ ap (λ ms. get_or ms g false) off_marks;
        }),
  )
    where
      u : State
      u = unmarked st f

      L : Kept u
      L = kept_marks (bits_off st f) (set (bits_off st f).marks f false) (length-set (bits_off st f).marks f false ∙ ap length off_marks ∙ K.marked) off_kept

      reach : (n t : ℕ) → Reaches st n t → slot_in n (word_at u (512 * t + n % 512)) ≡ cleaned_slot f (slot_in n (word_at st (512 * t + n % 512)))
      reach n t r = ⊎_elim
          (λ z. ap (slot_in n) (off_zero k high z) ∙ cond-false _ _ None zero_present ∙ sym (ap (λ w. cleaned_slot f (slot_in n w)) z ∙ ap (cleaned_slot f) (cond-false _ _ None zero_present)))
          (λ m. let on = mapped_present (word_at st k) m.0 in
          ap (slot_in n) (off_word k high ∙ ap (λ b. cond b (cleaned (word_at st k)) (word_at st k)) (mapping_at k low_k ∙ maps_mapped (word_at st k) f on))
          ∙ clean_slot n (word_at st k) (eqb (frame_of (word_at st k)) f) on refl)
          (K.leaves k low_k high)
        where
          k : ℕ
          k = 512 * t + n % 512

          low_k : 3072 ≤ 512 * t + n % 512
          low_k = omega (arith, r.low)

          high : 512 * t + n % 512 < 8192
          high = omega (arith, r.high)

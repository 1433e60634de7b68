-- A new entry is written into an unused slot.
use Rattle.std.proofs.lemmas.Bool.Decides.{nat_tests}
use Rattle.std.proofs.Common.{◌≡◌, ℕ, ◌+◌, ◌*◌, ◌/◌, ◌<◌, Bool, true, false, cond, not, eqb, ◌⊎◌, length, Some, sym, refl, ap, ◌∙◌, subst, inl, inr, ⊎_elim, arith}
use Rattle.std.proofs.lemmas.Bool.{cases_Bool, cases_eq, cond-true, cond-false, eq-eqb, ne_eqb, both_ways}
use Rattle.std.proofs.lemmas.List.{get_or-set_same, get_or-set_other, length-set}
use Rattle.pmap.specs.Tally.{tally}
use Rattle.slots.specs.Slots.{Entry}
use Rattle.slots.specs.Changes.{Filled}
use Rattle.powerpc_words.specs.Fields.{frame_of, changed, protection_of, second_word}
use Rattle.powerpc_words.specs.Hashing.{group, entry_word}
use Rattle.powerpc_words.specs.State.{State, first, second, wired_at}
use Rattle.powerpc_words.specs.Changes.{is_secondary, filled}
use Rattle.powerpc_words.proofs.HashLaws.{space_in, page_in, entry_above, entry_space, entry_page, groups_apart}
use Rattle.powerpc_pmap.specs.Kept.{At, Shaped, Unused, Used, Kept}
use Rattle.powerpc_pmap.proofs.Finds.{InGroup, in_group_below}
use Rattle.powerpc_pmap.proofs.Decoded.{entry_at, slot_at, table, slot_used, slot_unused, slot_same}
use Rattle.powerpc_pmap.proofs.Keeping.{tally_mono, tally_one}
use Rattle.powerpc_pmap.proofs.Colors.{new_shaped, new_frame, new_protection, new_changed}
use Rattle.powerpc_pmap.proofs.Emptying.{pair_first, pair_second, pair_first_other, pair_second_other, pair_length}

-- H by the slot's group
side_is : (s p k : ℕ) (side : Bool) → k / 8 ≡ group s p side → is_secondary s p k ≡ side
side_is s p k true e = ap not (ne_eqb _ _ (λ q. groups_apart s p (sym q ∙ e)))
side_is s p k false e = ap not (eq-eqb _ _ e)

module _ (st : State) (kept : Kept st) (s p : ℕ) (s_fits : s < 4) (p_fits : p < 262144) (k : ℕ) (place : InGroup s p k) (empty : first st k ≡ 0)
    (f q : ℕ) (f_fits : f < 256) (w : Bool) where
  abbrev sv : State
  sv = filled st k s p f q w

  below : k < 8192
  below = in_group_below s p k place

  room : 2 * k + 1 < length st.words
  room = omega (arith, below, kept.words)

  first_here : first (filled st k s p f q w) k ≡ entry_word s p place.side
  unfolding filled
  first_here = grind (arith, nat_tests, pair_first, room, side_is)

  second_here : second (filled st k s p f q w) k ≡ second_word f q
  unfolding filled
  second_here = pair_second st.words k _ _ room

  wired_here : wired_at (filled st k s p f q w) k ≡ w
  unfolding filled
  wired_here = get_or-set_same st.wired k w false (omega (arith, below, kept.wired))

  first_there : (j : ℕ) → (j ≡ k → ⊥) → first (filled st k s p f q w) j ≡ first st j
  unfolding filled
  first_there j far = pair_first_other st.words k _ _ j far

  second_there : (j : ℕ) → (j ≡ k → ⊥) → second (filled st k s p f q w) j ≡ second st j
  unfolding filled
  second_there j far = pair_second_other st.words k _ _ j far

  wired_there : (j : ℕ) → (j ≡ k → ⊥) → wired_at (filled st k s p f q w) j ≡ wired_at st j
  unfolding filled
  wired_there j far = get_or-set_other st.wired k j w false far

  -- the new entry has the place's first word
  new_at : At (filled st k s p f q w) s p place.side k
  new_at = grind (arith, nat_tests, below, first_here)

  new_used : Used (filled st k s p f q w) k
  new_used = grind (arith, nat_tests, new_at, second_here, new_shaped)

  old_slot : (j : ℕ) → (j ≡ k → ⊥) → Unused st j ⊎ Used st j → Unused (filled st k s p f q w) j ⊎ Used (filled st k s p f q w) j
  old_slot j far (inl u) = inl (record { first = first_there j far ∙ u.first; second = second_there j far ∙ u.second; wired = wired_there j far ∙ u.wired })
  old_slot j far (inr u) = inr (record {
    space = u.space;
    page = u.page;
    side = u.side;
    at = record { below = u.at.below; space = u.at.space; page = u.at.page; group = u.at.group; word = first_there j far ∙ u.at.word };
    shape = subst Shaped (sym (second_there j far)) u.shape;
  })

  -- a place in the new slot is the place entered
  new_place : (a b : ℕ) (g : Bool) → At (filled st k s p f q w) a b g k → (a ≡ s) × (b ≡ p)
  new_place a b g at = (
    sym (entry_space a b g at.space at.page) ∙ ap space_in (sym at.word ∙ first_here) ∙ entry_space s p place.side s_fits p_fits,
    sym (entry_page a b g at.space at.page k at.group) ∙ ap (page_in k) (sym at.word ∙ first_here) ∙ entry_page s p place.side s_fits p_fits k place.group,
  )

  old_at : (a b : ℕ) (g : Bool) (j : ℕ) → (j ≡ k → ⊥) → At (filled st k s p f q w) a b g j → At st a b g j
  old_at a b g j far at = grind (arith, nat_tests, below, first_there)

  module _ (free : (g : Bool) (j : ℕ) → At st s p g j → ⊥) where
    apart : (a b : ℕ) (g h : Bool) (j : ℕ) → (j ≡ k → ⊥) → At (filled st k s p f q w) a b g j → At (filled st k s p f q w) a b h k → ⊥
    apart a b g h j far x y =
        let same = new_place a b h y in
        free g j (subst (λ z. At st s z g j) same.1 (subst (λ z. At st z b g j) same.0 (old_at a b g j far x)))

    pub filled_keeps : (w ≡ true → tally (wired_at st) 8192 < 8) → Kept (filled st k s p f q w)
    unfolding filled
    filled_keeps less = record {
      words = pair_length st.words k _ _ ∙ kept.words;
      marks = kept.marks;
      wired = length-set st.wired k w ∙ kept.wired;
      next = kept.next;
      slot = λ j b. ⊎_elim
          (λ (e : j ≡ k). inr (subst (Used (filled st k s p f q w)) (sym e) new_used))
          (λ (e : j ≡ k → ⊥). old_slot j e (kept.slot j b))
          (cases_eq j k);
      single = λ a b g h i j x y. ⊎_elim
          (λ (e : i ≡ k). ⊎_elim
          (λ (d : j ≡ k). e ∙ sym d)
          (λ (d : j ≡ k → ⊥). absurd (apart a b h g j d y (subst (At (filled st k s p f q w) a b g) e x)))
          (cases_eq j k))
          (λ (e : i ≡ k → ⊥). ⊎_elim
          (λ (d : j ≡ k). absurd (apart a b g h i e x (subst (At (filled st k s p f q w) a b h) d y)))
          (λ (d : j ≡ k → ⊥). kept.single a b g h i j (old_at a b g i e x) (old_at a b h j d y))
          (cases_eq j k))
          (cases_eq i k);
      few = ⊎_elim
          (λ (t : w ≡ true).
          let more = tally_one (wired_at (filled st k s p f q w)) (wired_at st) k 8192 (λ j _ on. ⊎_elim
          (λ (e : j ≡ k). inr e) (λ (e : j ≡ k → ⊥). inl (sym (wired_there j e) ∙ on)) (cases_eq j k)) in
          omega (arith, more, less t))
          (λ (t : w ≡ false).
          let more = tally_mono (wired_at (filled st k s p f q w)) (wired_at st) 8192 (λ j _ on. ⊎_elim
          (λ (e : j ≡ k). absurd (both_ways w t (sym wired_here ∙ subst (λ x. wired_at (filled st k s p f q w) x ≡ true) e on)))
          (λ (e : j ≡ k → ⊥). sym (wired_there j e) ∙ on) (cases_eq j k)) in
          omega (arith, more, kept.few))
          (cases_Bool w);
    }

  -- what the new slot holds
  abbrev new_entry : Entry
  new_entry = record { space = s; page = p; frame = f; protection = q; wired = w; dirty = false }

  entry_new : (q ≡ 1) ⊎ (q ≡ 3) → entry_at (filled st k s p f q w) k ≡ new_entry
  entry_new right =
      ap (λ x. record { space = x; page = page_in k (first sv k); frame = frame_of (second sv k); protection = protection_of (second sv k); wired = wired_at sv k; dirty = changed (second sv k) }) (ap space_in first_here ∙ entry_space s p place.side s_fits p_fits)
      ∙ ap (λ x. record { space = s; page = x; frame = frame_of (second sv k); protection = protection_of (second sv k); wired = wired_at sv k; dirty = changed (second sv k) }) (ap (page_in k) first_here ∙ entry_page s p place.side s_fits p_fits k place.group)
      ∙ ap (λ x. record { space = s; page = p; frame = x; protection = protection_of (second sv k); wired = wired_at sv k; dirty = changed (second sv k) }) (ap frame_of second_here ∙ new_frame f q)
      ∙ ap (λ x. record { space = s; page = p; frame = f; protection = x; wired = wired_at sv k; dirty = changed (second sv k) }) (ap protection_of second_here ∙ new_protection f q right)
      ∙ ap (λ x. record { space = s; page = p; frame = f; protection = q; wired = x; dirty = changed (second sv k) }) wired_here
      ∙ ap (λ x. record { space = s; page = p; frame = f; protection = q; wired = w; dirty = x }) (ap changed second_here ∙ new_changed f q)

  pub filled_table : (q ≡ 1) ⊎ (q ≡ 3) → Filled (table st) (table (filled st k s p f q w)) k (record { space = s; page = p; frame = f; protection = q; wired = w; dirty = false })
  unfolding filled
  filled_table right = record {
    empty = slot_unused st k empty;
    slots = λ j. ⊎_elim
        (λ (e : j ≡ k). (subst (λ x. slot_at sv x ≡ cond (eqb x k) (Some new_entry) (slot_at st x)) (sym e)
        (slot_used sv k below (omega (arith, first_here, entry_above s p place.side)) ∙ ap Some (entry_new right) ∙ sym (cond-true _ _ _ (eq-eqb k k refl)))))
        (λ (e : j ≡ k → ⊥). slot_same st sv j (first_there j e) (second_there j e) (wired_there j e) ∙ sym (cond-false _ _ _ (ne_eqb j k e)))
        (cases_eq j k);
    clean = refl;
    marks = λ g. refl;
  }

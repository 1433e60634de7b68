-- Wired slots: there is always one to forget, and eight beside a place's own are eight other places.
use Rattle.std.proofs.Common.{◌≡◌, ℕ, ◌+◌, ◌*◌, ◌%◌, ◌<◌, true, false, cond, not, ◌&&◌, eqb, Some, None, sym, refl, ap, ◌∙◌, subst, ⊎_elim, arith}
use Rattle.std.proofs.lemmas.Bool.{cases_Bool, cases_eq, cond-true, cond-false, and_from, and_parts, eq-eqb, ne_eqb, eqb-true, both_ways, not-true, leb-true, leb-false}
use Rattle.pmap.specs.Meaning.{Crowded}
use Rattle.pmap.specs.Tally.{tally}
use Rattle.pmap.proofs.Crowds.{tally_least}
use Rattle.slots.specs.Slots.{Entry, wired_elsewhere}
use Rattle.slots.proofs.Shown.{none_some, crowded as slots_crowded, not_crowded as slots_not_crowded}
use Rattle.powerpc_words.specs.Hashing.{group}
use Rattle.powerpc_words.specs.State.{State, wired_at}
use Rattle.powerpc_words.specs.Search.{lookup, unwired_in, victim}
use Rattle.powerpc_words.specs.Answers.{is_slot, wired_beside, crowded}
use Rattle.powerpc_words.proofs.HashLaws.{group_below, groups_apart}
use Rattle.powerpc_words.proofs.SearchLaws.{victim_primary, victim_secondary}
use Rattle.powerpc_pmap.specs.View.{view_of}
use Rattle.powerpc_pmap.specs.Kept.{At, Unused, Used, Kept}
use Rattle.powerpc_pmap.proofs.Finds.{option_cases, unwired_in_misses, lookup_finds, lookup_at}
use Rattle.powerpc_pmap.proofs.Decoded.{entry_at, slot_at, table, slot_past, slot_some, at_used, at_space, at_page}
use Rattle.powerpc_pmap.proofs.Showing.{shows, single}
use Rattle.powerpc_pmap.proofs.Keeping.{tally_mono}

-- ---- a slot to forget
module _ (st : State) (kept : Kept st) (s p : ℕ) where
  -- nine wired slots: the eight of the primary group, and one of the secondary
  nine : ℕ → ℕ
  nine i = cond (eqb i 8) (8 * group s p true + st.next % 8) (8 * group s p false + (st.next + i) % 8)

  nine_low : (i : ℕ) → (i ≡ 8 → ⊥) → nine i ≡ 8 * group s p false + (st.next + i) % 8
  unfolding nine
  nine_low i far = cond-false _ _ _ (ne_eqb i 8 far)

  nine_top : (i : ℕ) → i ≡ 8 → nine i ≡ 8 * group s p true + st.next % 8
  unfolding nine
  nine_top i e = cond-true _ _ _ (eq-eqb i 8 e)

  module _ (a : unwired_in st.wired (group s p false) st.next ≡ None) (b : unwired_in st.wired (group s p true) st.next ≡ None) where
    all_wired : (i : ℕ) → i < 9 → (nine i < 8192) × (wired_at st (nine i) ≡ true)
    all_wired i h = ⊎_elim
        (λ (e : i ≡ 8).
        let at = nine_top i e in
        let zero_on : st.next + 0 ≡ st.next = omega arith in (
          omega (arith, at, group_below s p true),
          ap (wired_at st) (at ∙ ap (λ x. 8 * group s p true + x % 8) (sym zero_on)) ∙ unwired_in_misses st.wired (group s p true) st.next 0 b (omega arith),
        ))
        (λ (e : i ≡ 8 → ⊥).
        let at = nine_low i e in (
          omega (arith, at, group_below s p false),
          ap (wired_at st) at ∙ unwired_in_misses st.wired (group s p false) st.next i a (omega arith),
        ))
        (cases_eq i 8)

    nine_apart : (i j : ℕ) → i < 9 → j < 9 → nine i ≡ nine j → i ≡ j
    nine_apart i j h k e = ⊎_elim
        (λ (x : i ≡ 8). ⊎_elim
        (λ (y : j ≡ 8). x ∙ sym y)
        (λ (y : j ≡ 8 → ⊥). absurd (groups_apart s p (mixed j (sym (sym (nine_top i x) ∙ e ∙ nine_low j y)))))
        (cases_eq j 8))
        (λ (x : i ≡ 8 → ⊥). ⊎_elim
        (λ (y : j ≡ 8). absurd (groups_apart s p (mixed i (sym (nine_low i x) ∙ e ∙ nine_top j y))))
        (λ (y : j ≡ 8 → ⊥). turn i j (omega arith) (omega arith) (sym (nine_low i x) ∙ e ∙ nine_low j y))
        (cases_eq j 8))
        (cases_eq i 8)
      where
        mixed : (j : ℕ) → 8 * group s p false + (st.next + j) % 8 ≡ 8 * group s p true + st.next % 8 → group s p false ≡ group s p true
        mixed j q = omega arith

        turn : (i j : ℕ) → i < 8 → j < 8 → 8 * group s p false + (st.next + i) % 8 ≡ 8 * group s p false + (st.next + j) % 8 → i ≡ j
        turn i j x y q = omega arith

    full : ⊥
    full =
        let least = tally_least (wired_at st) 8192 9 nine all_wired nine_apart in
        omega (arith, least, kept.few)

  pub victim_exists : victim st s p ≡ None → ⊥
  victim_exists e = ⊎_elim
      (λ (a : unwired_in st.wired (group s p false) st.next ≡ None). full a (sym (victim_secondary st.wired st.next s p a) ∙ e))
      (λ f. none_some (sym e ∙ victim_primary st.wired st.next s p f.0 f.1))
      (option_cases (unwired_in st.wired (group s p false) st.next))

-- ---- wired places beside one
module _ (st : State) (kept : Kept st) (s p : ℕ) (s_fits : s < 4) (p_fits : p < 262144) where
  beside_parts : (k : ℕ) → wired_beside st (lookup st.words s p) k ≡ true → (wired_at st k ≡ true) × (is_slot (lookup st.words s p) k ≡ false)
  unfolding wired_beside
  beside_parts k t = let parts = and_parts (wired_at st k) (not (is_slot (lookup st.words s p) k)) t in (parts.0, not-true _ parts.1)

  pub beside_from : (k : ℕ) → wired_at st k ≡ true → is_slot (lookup st.words s p) k ≡ false → wired_beside st (lookup st.words s p) k ≡ true
  unfolding wired_beside
  beside_from k a b = and_from _ _ a (ap not b)

  -- the slot of the place itself
  own_slot : (k : ℕ) → is_slot (lookup st.words s p) k ≡ true → lookup st.words s p ≡ Some k
  own_slot k t = ⊎_elim
      (λ (n : lookup st.words s p ≡ None). absurd (both_ways _ refl (sym (ap (λ o. is_slot o k) n) ∙ t)))
      (λ f. f.1 ∙ ap Some (sym (eqb-true k f.0 (sym (ap (λ o. is_slot o k) f.1) ∙ t))))
      (option_cases (lookup st.words s p))

  own_found : (k : ℕ) → lookup st.words s p ≡ Some k → is_slot (lookup st.words s p) k ≡ true
  own_found k e = ap (λ o. is_slot o k) e ∙ eq-eqb k k refl

  place_test : (e : Entry) → e.space ≡ s → e.page ≡ p → (eqb e.space s && eqb e.page p) ≡ true
  place_test e a b = and_from _ _ (eq-eqb _ _ a) (eq-eqb _ _ b)

  -- a wired slot is in use
  wired_used : (k : ℕ) → k < 8192 → wired_at st k ≡ true → Used st k
  wired_used k b t = ⊎_elim (λ (u : Unused st k). absurd (both_ways _ u.wired t)) (λ (u : Used st k). u) (kept.slot k b)

  to_slots : (k : ℕ) → k < 8192 → wired_beside st (lookup st.words s p) k ≡ true → wired_elsewhere s p (slot_at st k) ≡ true
  to_slots k b t =
      let parts = beside_parts k t in
      let u = wired_used k b parts.0 in
      ap (wired_elsewhere s p) (at_used st k u.space u.page u.side u.at)
      ∙ and_from _ _ parts.0 (ap not (⊎_elim
      (λ (yes_it : (eqb (entry_at st k).space s && eqb (entry_at st k).page p) ≡ true).
      let same = and_parts (eqb (entry_at st k).space s) (eqb (entry_at st k).page p) yes_it in
      let a : u.space ≡ s = sym (at_space st k u.space u.page u.side u.at) ∙ eqb-true _ _ same.0 in
      let c : u.page ≡ p = sym (at_page st k u.space u.page u.side u.at) ∙ eqb-true _ _ same.1 in
      let at = subst (λ y. At st s y u.side k) c (subst (λ x. At st x u.page u.side k) a u.at) in
      absurd (both_ways _ parts.1 (own_found k (lookup_at st s p s_fits p_fits kept u.side k at))))
      (λ (not_it : (eqb (entry_at st k).space s && eqb (entry_at st k).page p) ≡ false). not_it)
      (cases_Bool (eqb (entry_at st k).space s && eqb (entry_at st k).page p))))

  from_slots : (k : ℕ) → k < 8192 → wired_elsewhere s p (slot_at st k) ≡ true → wired_beside st (lookup st.words s p) k ≡ true
  from_slots k b t = ⊎_elim
      (λ (n : slot_at st k ≡ None). absurd (both_ways _ refl (sym (ap (wired_elsewhere s p) n) ∙ t)))
      (λ f.
      let e = (slot_some st k f.0 f.1).2 in
      let parts = and_parts (entry_at st k).wired (not (eqb (entry_at st k).space s && eqb (entry_at st k).page p)) (sym (ap (wired_elsewhere s p) (f.1 ∙ ap Some (sym e))) ∙ t) in
      beside_from k parts.0 (⊎_elim
      (λ (mine : is_slot (lookup st.words s p) k ≡ true).
      let r = lookup_finds st s p s_fits p_fits k (own_slot k mine) in
      absurd (both_ways _ (not-true _ parts.1) (place_test (entry_at st k) (at_space st k s p r.0 r.1) (at_page st k s p r.0 r.1))))
      (λ (other : is_slot (lookup st.words s p) k ≡ false). other)
      (cases_Bool (is_slot (lookup st.words s p) k))))
      (option_cases (slot_at st k))

  pub crowded_means : crowded st s p ≡ true → Crowded (view_of st).held s p
  unfolding crowded
  crowded_means t =
      let many = leb-true _ _ t in
      let more = tally_mono (wired_beside st (lookup st.words s p)) (λ k. wired_elsewhere s p (slot_at st k)) 8192 to_slots in
      slots_crowded (table st) (view_of st) (shows st kept) s p 8192 (single st kept) (omega (arith, many, more))

  pub few_beside : crowded st s p ≡ false → tally (wired_beside st (lookup st.words s p)) 8192 < 8
  unfolding crowded
  few_beside t = leb-false _ _ t

  pub room_means : crowded st s p ≡ false → Crowded (view_of st).held s p → ⊥
  room_means t =
      let few = few_beside t in
      let more = tally_mono (λ k. wired_elsewhere s p (slot_at st k)) (wired_beside st (lookup st.words s p)) 8192 from_slots in
      slots_not_crowded (table st) (view_of st) (shows st kept) s p 8192 (slot_past st) (omega (arith, few, more))

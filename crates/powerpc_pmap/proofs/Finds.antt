-- What the searches find, and what it means that they find nothing.
use Rattle.std.proofs.lemmas.Bool.Decides.{nat_tests}
use Rattle.std.proofs.Common.{◌≡◌, ℕ, zero, suc, ◌+◌, ◌*◌, ◌/◌, ◌%◌, ◌<◌, ◌≤◌, Bool, true, false, eqb, ◌⊎◌, List, get_or, Some, None, Option, sym, refl, ap, ◌∙◌, subst, inl, inr, ⊎_elim, arith}
use Rattle.std.proofs.lemmas.Bool.{cases_Bool, cases_eq, cond-true, cond-false, eqb-true, eqb-false}
use Rattle.slots.proofs.Shown.{none_some, some_inj}
use Rattle.powerpc_words.specs.Hashing.{group, entry_word}
use Rattle.powerpc_words.specs.State.{State, first, wired_at}
use Rattle.powerpc_words.specs.Search.{slot_from, slot_in, lookup, unused, unwired_from, unwired_in, victim}
use Rattle.powerpc_words.proofs.HashLaws.{group_below}
use Rattle.powerpc_words.proofs.SearchLaws.{slot_in_is, unwired_in_is, lookup_primary, lookup_secondary, unused_primary, unused_secondary, victim_primary, victim_secondary}
use Rattle.powerpc_pmap.specs.Kept.{At, Kept}

pub option_cases : {A : Type 0} (o : Option A) → (o ≡ None) ⊎ ((x : A) × (o ≡ Some x))
option_cases None = inl refl
option_cases (Some x) = inr (x, refl)

module _ (words : List ℕ) (w : ℕ) where
  slot_from_finds : (n at k : ℕ) → slot_from words w at n ≡ Some k → (at ≤ k) × (k < at + n) × (get_or words (2 * k) 0 ≡ w)
  unfolding slot_from
  slot_from_finds zero at k e = absurd (none_some e)
  slot_from_finds (suc n) at k e = ⊎_elim
      (λ (h : eqb (get_or words (2 * at) 0) w ≡ true).
      let q : at ≡ k = some_inj (sym (cond-true _ _ _ h) ∙ e) in
      (omega arith, omega arith, subst (λ x. get_or words (2 * x) 0 ≡ w) q (eqb-true _ _ h)))
      (λ (h : eqb (get_or words (2 * at) 0) w ≡ false).
      let r = slot_from_finds n (at + 1) k (sym (cond-false _ _ _ h) ∙ e) in
      (omega (arith, r.0), omega (arith, r.1), r.2))
      (cases_Bool (eqb (get_or words (2 * at) 0) w))

  slot_from_misses : (n at k : ℕ) → slot_from words w at n ≡ None → at ≤ k → k < at + n → get_or words (2 * k) 0 ≡ w → ⊥
  unfolding slot_from
  slot_from_misses zero at k e lo hi h = omega arith
  slot_from_misses (suc n) at k e lo hi h = ⊎_elim
      (λ (t : eqb (get_or words (2 * at) 0) w ≡ true). none_some (sym e ∙ cond-true _ _ _ t))
      (λ (t : eqb (get_or words (2 * at) 0) w ≡ false). ⊎_elim
      (λ (q : k ≡ at). eqb-false _ _ t (subst (λ x. get_or words (2 * x) 0 ≡ w) q h))
      (λ (q : k ≡ at → ⊥). slot_from_misses n (at + 1) k (sym (cond-false _ _ _ t) ∙ e) (omega arith) (omega arith) h)
      (cases_eq k at))
      (cases_Bool (eqb (get_or words (2 * at) 0) w))

  pub slot_in_finds : (g k : ℕ) → slot_in words g w ≡ Some k → (k / 8 ≡ g) × (get_or words (2 * k) 0 ≡ w)
  slot_in_finds g k e =
      let r = slot_from_finds 8 (8 * g) k (sym (slot_in_is words g w) ∙ e) in
      (omega (arith, r.0, r.1), r.2)

  pub slot_in_misses : (g k : ℕ) → slot_in words g w ≡ None → k / 8 ≡ g → get_or words (2 * k) 0 ≡ w → ⊥
  slot_in_misses g k e q h = grind (arith, nat_tests, slot_from_misses, slot_in_is)

module _ (wired : List Bool) (g : ℕ) where
  unwired_from_finds : (n at k : ℕ) → unwired_from wired g at n ≡ Some k → (k / 8 ≡ g) × (get_or wired k false ≡ false)
  unfolding unwired_from
  unwired_from_finds zero at k e = absurd (none_some e)
  unwired_from_finds (suc n) at k e = ⊎_elim
      (λ (h : get_or wired (8 * g + at % 8) false ≡ true). unwired_from_finds n (at + 1) k (sym (cond-true _ _ _ h) ∙ e))
      (λ (h : get_or wired (8 * g + at % 8) false ≡ false).
      let q : 8 * g + at % 8 ≡ k = some_inj (sym (cond-false _ _ _ h) ∙ e) in
      (omega arith, subst (λ x. get_or wired x false ≡ false) q h))
      (cases_Bool (get_or wired (8 * g + at % 8) false))

  unwired_from_misses : (n at j : ℕ) → unwired_from wired g at n ≡ None → j < n → get_or wired (8 * g + (at + j) % 8) false ≡ true
  unfolding unwired_from
  unwired_from_misses zero at j e h = absurd (omega arith)
  unwired_from_misses (suc n) at zero e h = ⊎_elim
      (λ (t : get_or wired (8 * g + at % 8) false ≡ true). (let q : at + 0 ≡ at = omega arith in rw q t))
      (λ (t : get_or wired (8 * g + at % 8) false ≡ false). absurd (none_some (sym e ∙ cond-false _ _ _ t)))
      (cases_Bool (get_or wired (8 * g + at % 8) false))
  unwired_from_misses (suc n) at (suc j) e h = ⊎_elim
      (λ (t : get_or wired (8 * g + at % 8) false ≡ true).
      (let q : at + suc j ≡ at + 1 + j = omega arith in rw q (unwired_from_misses n (at + 1) j (sym (cond-true _ _ _ t) ∙ e) (omega arith))))
      (λ (t : get_or wired (8 * g + at % 8) false ≡ false). absurd (none_some (sym e ∙ cond-false _ _ _ t)))
      (cases_Bool (get_or wired (8 * g + at % 8) false))

  pub unwired_in_finds : (next k : ℕ) → unwired_in wired g next ≡ Some k → (k / 8 ≡ g) × (get_or wired k false ≡ false)
  unwired_in_finds next k e = unwired_from_finds 8 next k (sym (unwired_in_is wired g next) ∙ e)

  pub unwired_in_misses : (next j : ℕ) → unwired_in wired g next ≡ None → j < 8 → get_or wired (8 * g + (next + j) % 8) false ≡ true
  unwired_in_misses next j e h = unwired_from_misses 8 next j (sym (unwired_in_is wired g next) ∙ e) h

-- a slot in one of the groups of a place
pub record InGroup (s p k : ℕ) : Type 0 where
  pub side : Bool
  pub group : k / 8 ≡ group s p side

pub in_group_below : (s p k : ℕ) → InGroup s p k → k < 8192
in_group_below s p k g = omega (arith, g.group, group_below s p g.side)

module _ (st : State) (s p : ℕ) (s_fits : s < 4) (p_fits : p < 262144) where
  at_slot : (side : Bool) (k : ℕ) → k / 8 ≡ group s p side → first st k ≡ entry_word s p side → At st s p side k
  at_slot side k g w = grind (arith, nat_tests, group_below)

  pub lookup_finds : (k : ℕ) → lookup st.words s p ≡ Some k → (side : Bool) × At st s p side k
  lookup_finds k e = ⊎_elim
      (λ (n : slot_in st.words (group s p false) (entry_word s p false) ≡ None).
      let r = slot_in_finds st.words (entry_word s p true) (group s p true) k (sym (lookup_secondary st.words s p n) ∙ e) in
      (true, at_slot true k r.0 r.1))
      (λ f. let q : f.0 ≡ k = some_inj (sym (lookup_primary st.words s p f.0 f.1) ∙ e) in
      let r = slot_in_finds st.words (entry_word s p false) (group s p false) k (f.1 ∙ ap Some q) in
      (false, at_slot false k r.0 r.1))
      (option_cases (slot_in st.words (group s p false) (entry_word s p false)))

  pub lookup_misses : lookup st.words s p ≡ None → (side : Bool) (k : ℕ) → At st s p side k → ⊥
  lookup_misses e side k at = grind (arith, nat_tests, slot_in_misses, lookup_secondary, none_some, lookup_primary, option_cases)

  pub unused_finds : (k : ℕ) → unused st.words s p ≡ Some k → InGroup s p k × (first st k ≡ 0)
  unused_finds k e = ⊎_elim
      (λ (n : slot_in st.words (group s p false) 0 ≡ None).
      let r = slot_in_finds st.words 0 (group s p true) k (sym (unused_secondary st.words s p n) ∙ e) in
      (record { side = true; group = r.0 }, r.1))
      (λ f. let q : f.0 ≡ k = some_inj (sym (unused_primary st.words s p f.0 f.1) ∙ e) in
      let r = slot_in_finds st.words 0 (group s p false) k (f.1 ∙ ap Some q) in
      (record { side = false; group = r.0 }, r.1))
      (option_cases (slot_in st.words (group s p false) 0))

  pub victim_finds : (k : ℕ) → victim st s p ≡ Some k → InGroup s p k × (wired_at st k ≡ false)
  victim_finds k e = ⊎_elim
      (λ (n : unwired_in st.wired (group s p false) st.next ≡ None).
      let r = unwired_in_finds st.wired (group s p true) st.next k (sym (victim_secondary st.wired st.next s p n) ∙ e) in
      (record { side = true; group = r.0 }, r.1))
      (λ f. let q : f.0 ≡ k = some_inj (sym (victim_primary st.wired st.next s p f.0 f.1) ∙ e) in
      let r = unwired_in_finds st.wired (group s p false) st.next k (f.1 ∙ ap Some q) in
      (record { side = false; group = r.0 }, r.1))
      (option_cases (unwired_in st.wired (group s p false) st.next))

  -- a place that a slot has is found there
  pub lookup_at : Kept st → (side : Bool) (k : ℕ) → At st s p side k → lookup st.words s p ≡ Some k
  lookup_at kept side k at = ⊎_elim
      (λ (n : lookup st.words s p ≡ None). absurd (lookup_misses n side k at))
      (λ f. let r = lookup_finds f.0 f.1 in f.1 ∙ ap Some (kept.single s p r.0 side f.0 k r.1 at))
      (option_cases (lookup st.words s p))

-- The count of wired leaf words tells whether eight other places are wired.
use Rattle.std.proofs.Common.{◌≡◌, ℕ, ◌+◌, ◌*◌, ◌/◌, ◌%◌, ◌<◌, ◌≤◌, Bool, true, false, not, ◌&&◌, eqb, ◌⊎◌, Some, None, Option, sym, refl, ap, ◌∙◌, subst, inl, inr, ⊎_elim, arith}
use Rattle.std.proofs.lemmas.Bool.{and_parts, and_from, leb-true, leb-false, le-leb, cases_lt, cases_Bool, both_ways, eq-eqb, eqb-true, not-true}
use Rattle.std.proofs.lemmas.List.{get_or_past}
use Rattle.pmap.specs.Meaning.{Crowded}
use Rattle.pmap.specs.Tally.{tally}
use Rattle.slots.specs.Slots.{Entry, wired_elsewhere}
use Rattle.slots.proofs.Shown.{crowded as slots_crowded, not_crowded as slots_not_crowded}
use Rattle.x86_words.specs.Words.{wired}
use Rattle.x86_words.specs.Walks.{linear, walk}
use Rattle.x86_words.specs.State.{State, word_at, reached, is_leaf, is_own, wired_beside, crowded}
use Rattle.x86_pmap.specs.Kept.{Kept}
use Rattle.x86_pmap.specs.Views.{view_of}
use Rattle.x86_pmap.proofs.Fields.{zero_wired}
use Rattle.x86_pmap.proofs.Tables.{table, slot_of, entry_of, Reaches, Placed, page_cases, walk_nothing, slot_past, slot_used, word_placed, table_shows, table_single}
use Rattle.x86_pmap.proofs.Counts.{tally_inject}
use Rattle.x86_pmap.proofs.Follows.{reach_inj, reach_same}
use Rattle.x86_pmap.proofs.Places.{page_inside, page_space, page_page, page_is}

option_cases : {A : Type 0} (o : Option A) → (o ≡ None) ⊎ ((a : A) × (o ≡ Some a))
option_cases None = inl refl
option_cases (Some a) = inr (a, refl)

module _ (s p : ℕ) (x : s < 4) (y : p < 262144) (st : State) (K : Kept st) where
  abbrev words : ℕ → Bool
  words k = wired_beside st (walk st.words (linear s p)) k

  abbrev slots : ℕ → Bool
  slots n = wired_elsewhere s p (slot_of st n)

  counted_low : (k : ℕ) → words k ≡ true → 3072 ≤ k
  counted_low k e = leb-true 3072 k (and_parts (is_leaf k) _ e).0

  counted_wired : (k : ℕ) → words k ≡ true → wired (word_at st k) ≡ true
  counted_wired k e = (and_parts (wired (word_at st k)) _ (and_parts (is_leaf k) _ e).1).0

  counted_other : (k : ℕ) → words k ≡ true → is_own (walk st.words (linear s p)) k ≡ false
  counted_other k e = not-true _ (and_parts (wired (word_at st k)) _ (and_parts (is_leaf k) _ e).1).1

  counted_some : (k : ℕ) → words k ≡ true → word_at st k ≡ 0 → ⊥
  counted_some k e z = both_ways (wired (word_at st k)) (ap wired z ∙ zero_wired) (counted_wired k e)

  counted_high : (k : ℕ) → words k ≡ true → k < 8192
  counted_high k e = ⊎_elim (λ (l : k < 8192). l) (λ (l : 8192 ≤ k). absurd (counted_some k e (get_or_past st.words k 0 (omega (arith, K.size))))) (cases_lt k 8192)

  placed : (k : ℕ) → words k ≡ true → Placed st K k
  placed k e = word_placed st K k (counted_low k e) (counted_high k e) (counted_some k e)

  -- the page of a counted word
  page_at : (k : ℕ) (b : Bool) → words k ≡ b → ℕ
  page_at k true e = (placed k e).page
  page_at k false e = 0

  page_at_is : (k : ℕ) (b : Bool) (e : words k ≡ b) (h : words k ≡ true) → (Reaches st (page_at k b e) (k / 512)) × (512 * (k / 512) + page_at k b e % 512 ≡ k) × (slot_of st (page_at k b e) ≡ Some (entry_of (page_at k b e) (word_at st k)))
  unfolding page_at
  page_at_is k true e h = ((placed k e).reaches, (placed k e).at, (placed k e).slot)
  page_at_is k false e h = absurd (both_ways (words k) e h)

  page_of : ℕ → ℕ
  page_of k = page_at k (words k) refl

  -- each counted word stands at another place
  pub words_slots : tally words 8192 ≤ tally slots 1048576
  unfolding page_of
  words_slots = tally_inject words slots 8192 1048576 page_of goes apart
    where
      other : (k n : ℕ) → words k ≡ true → Reaches st n (k / 512) → 512 * (k / 512) + n % 512 ≡ k → (eqb (n / 262144) s && eqb (n % 262144) p) ≡ false
      other k n h r at = ⊎_elim
          (λ (e : (eqb (n / 262144) s && eqb (n % 262144) p) ≡ true).
          let parts = and_parts (eqb (n / 262144) s) (eqb (n % 262144) p) e in
          let same = page_is s p x y n (eqb-true _ _ parts.0) (eqb-true _ _ parts.1) in
          absurd (both_ways (is_own (walk st.words (linear s p)) k) (counted_other k h)
          (ap (λ o. is_own o k) (ap (walk st.words) (sym same) ∙ r.walks) ∙ eq-eqb k (512 * (k / 512) + n % 512) (sym at))))
          (λ (e : (eqb (n / 262144) s && eqb (n % 262144) p) ≡ false). e)
          (cases_Bool (eqb (n / 262144) s && eqb (n % 262144) p))

      goes : (k : ℕ) → k < 8192 → words k ≡ true → (page_of k < 1048576) × (slots (page_of k) ≡ true)
      goes k l h =
          let q = page_at_is k (words k) refl h in
          (q.0.within, ap (wired_elsewhere s p) q.2 ∙ and_from _ _ (counted_wired k h) (ap not (other k (page_of k) h q.0 q.1)))

      apart : (j k : ℕ) → j < 8192 → k < 8192 → words j ≡ true → words k ≡ true → page_of j ≡ page_of k → j ≡ k
      apart j k a b g h e =
          let q = page_at_is j (words j) refl g in
          let r = page_at_is k (words k) refl h in
          let same = points_agree (page_of j) (page_of k) (j / 512) (k / 512) e q.0 r.0 in
          sym q.1 ∙ ap (λ i. 512 * i + page_of j % 512) same ∙ ap (λ i. 512 * (k / 512) + i % 512) e ∙ r.1
        where
          points_agree : (n m t u : ℕ) → n ≡ m → Reaches st n t → Reaches st m u → t ≡ u
          points_agree n m t u e q r = reach_same st n t u q (subst (λ i. Reaches st i u) (sym e) r)

  -- each counted slot has another word
  position_of : ℕ → ℕ
  position_of n = reached (walk st.words n) 0 (λ w. w.leaf)

  position_is : (n t : ℕ) → Reaches st n t → position_of n ≡ 512 * t + n % 512
  unfolding position_of
  position_is n t r = ap (λ o. reached o 0 (λ w. w.leaf)) r.walks

  pub slots_words : tally slots 1048576 ≤ tally words 8192
  slots_words = tally_inject slots words 1048576 8192 position_of goes apart
    where
      slot_entry : (n : ℕ) → slots n ≡ true → (e : Entry) × (slot_of st n ≡ Some e) × (e.wired ≡ true) × ((eqb e.space s && eqb e.page p) ≡ false)
      slot_entry n h = ⊎_elim
          (λ z. absurd (both_ways false refl (sym (ap (wired_elsewhere s p) z) ∙ h)))
          (λ e. let parts = and_parts e.0.wired _ (sym (ap (wired_elsewhere s p) e.1) ∙ h) in (e.0, e.1, parts.0, not-true _ parts.1))
          (option_cases (slot_of st n))

      not_own : (n t : ℕ) → Reaches st n t → (eqb (n / 262144) s && eqb (n % 262144) p) ≡ false → is_own (walk st.words (linear s p)) (512 * t + n % 512) ≡ false
      not_own n t r far = ⊎_elim
          (λ z. ap (λ o. is_own o (512 * t + n % 512)) (walk_nothing st K (linear s p) (page_inside s p x y) z))
          (λ l. ap (λ o. is_own o (512 * t + n % 512)) l.1.walks ∙ ⊎_elim
          (λ (e : eqb (512 * t + n % 512) (512 * l.0 + linear s p % 512) ≡ true).
          let same = reach_inj st K n (linear s p) t l.0 r l.1 (eqb-true _ _ e) in
          absurd (both_ways (eqb (n / 262144) s && eqb (n % 262144) p) far (and_from _ _ (eq-eqb _ _ (ap (λ i. i / 262144) same ∙ page_space s p x y)) (eq-eqb _ _ (ap (λ i. i % 262144) same ∙ page_page s p x y)))))
          (λ (e : eqb (512 * t + n % 512) (512 * l.0 + linear s p % 512) ≡ false). e)
          (cases_Bool (eqb (512 * t + n % 512) (512 * l.0 + linear s p % 512))))
          (page_cases st K (linear s p) (page_inside s p x y))

      goes : (n : ℕ) → n < 1048576 → slots n ≡ true → (position_of n < 8192) × (words (position_of n) ≡ true)
      goes n l h =
          let e = slot_entry n h in
          let u = slot_used st K n e.0 e.1 in
          let r = u.reaches in
          rw (position_is n u.leaf r) (
            omega (arith, r.high),
            and_from _ _ (le-leb 3072 (512 * u.leaf + n % 512) (omega (arith, r.low)))
                (and_from _ _ (sym (ap (λ z. z.wired) u.is) ∙ e.2) (ap not (not_own n u.leaf r (sym (ap (λ z. eqb z.space s && eqb z.page p) u.is) ∙ e.3)))),
          )

      apart : (n m : ℕ) → n < 1048576 → m < 1048576 → slots n ≡ true → slots m ≡ true → position_of n ≡ position_of m → n ≡ m
      apart n m a b g h e =
          let d = slot_entry n g in
          let c = slot_entry m h in
          let u = slot_used st K n d.0 d.1 in
          let w = slot_used st K m c.0 c.1 in
          reach_inj st K n m u.leaf w.leaf u.reaches w.reaches (sym (position_is n u.leaf u.reaches) ∙ e ∙ position_is m w.leaf w.reaches)

  -- the board's test says what the meaning asks
  pub crowded_means : crowded st s p ≡ true → Crowded (view_of st).held s p
  crowded_means e =
      let many = leb-true 8 (tally words 8192) e in
      slots_crowded (table st) (view_of st) (table_shows st K) s p 1048576 (table_single st K) (omega (arith, words_slots, many))

  pub crowded_few : crowded st s p ≡ false → tally words 8192 < 8
  crowded_few e = leb-false 8 (tally words 8192) e

  pub crowded_not : crowded st s p ≡ false → Crowded (view_of st).held s p → ⊥
  crowded_not e =
      slots_not_crowded (table st) (view_of st) (table_shows st K) s p 1048576 (λ n h. slot_past st n h) (omega (arith, slots_words, crowded_few e))

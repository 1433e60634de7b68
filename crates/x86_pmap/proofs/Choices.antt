-- Among ten leaves with at most eight wired mappings, the one that is chosen holds none.
use Rattle.std.proofs.Common.{◌≡◌, ℕ, zero, suc, ◌+◌, ◌-◌, ◌*◌, ◌%◌, ◌<◌, ◌≤◌, Bool, true, false, eqb, ◌⊎◌, List, get_or, sym, refl, ap, ◌∙◌, inl, inr, ⊎_elim, arith}
use Rattle.std.proofs.lemmas.Bool.{and_from, le-leb, cases_eq, cases_Bool, cond-true, cond-false, eq-eqb, ne_eqb, both_ways}
use Rattle.pmap.proofs.Crowds.{tally_least}
use Rattle.x86_words.specs.Words.{wired}
use Rattle.x86_words.specs.State.{State, holds_wired, leaf_after, free_from, free_leaf}
use Rattle.x86_words.proofs.Sets.{any_wired_is, free_here, free_more, free_last}
use Rattle.x86_pmap.specs.Kept.{Kept, wired_leaf}

-- the leaf that comes i leaves after t
abbrev leaf_past : ℕ → ℕ → ℕ
leaf_past t i = 6 + (t - 6 + i) % 10

module _ (t : ℕ) (low : 6 ≤ t) (high : t ≤ 15) where
  after_cases : ((t ≡ 15) × (leaf_after t ≡ 6)) ⊎ ((t < 15) × (leaf_after t ≡ t + 1))
  after_cases = ⊎_elim
      (λ (e : t ≡ 15). inl (e, cond-true (eqb t 15) 6 (t + 1) (eq-eqb t 15 e)))
      (λ (e : t ≡ 15 → ⊥). inr (omega arith, cond-false (eqb t 15) 6 (t + 1) (ne_eqb t 15 e)))
      (cases_eq t 15)

  pub after_low : 6 ≤ leaf_after t
  after_low = ⊎_elim (λ e. rw e.1 (omega arith)) (λ e. rw e.1 (omega arith)) after_cases

  pub after_high : leaf_after t ≤ 15
  after_high = ⊎_elim (λ e. rw e.1 (omega arith)) (λ e. rw e.1 (omega (arith, e.0))) after_cases

  past_after : (i : ℕ) → leaf_past (leaf_after t) i ≡ leaf_past t (i + 1)
  past_after i = ⊎_elim (λ e. rw e.1 (omega (arith, e.0))) (λ e. rw e.1 (omega (arith, e.0))) after_cases

  past_here : leaf_past t 0 ≡ t
  past_here = omega arith

module _ (words : List ℕ) where
  pub free_range : (n t : ℕ) → 6 ≤ t → t ≤ 15 → (6 ≤ free_from words t n) × (free_from words t n ≤ 15)
  free_range zero t low high = rw (free_last words t 0 refl) (low, high)
  free_range (suc n) t low high = ⊎_elim
      (λ (e : holds_wired words t ≡ true). rw (free_more words t (suc n) n (omega arith) e) (free_range n (leaf_after t) (after_low t low high) (after_high t low high)))
      (λ (e : holds_wired words t ≡ false). rw (free_here words t (suc n) e) (low, high))
      (cases_Bool (holds_wired words t))

  -- the leaf that is chosen holds no wired mapping, or every one that was looked at does
  free_or_all : (n t : ℕ) → 6 ≤ t → t ≤ 15 → (holds_wired words (free_from words t n) ≡ false) ⊎ ((i : ℕ) → i ≤ n → holds_wired words (leaf_past t i) ≡ true)
  free_or_all zero t low high = ⊎_elim
      (λ (e : holds_wired words t ≡ true). inr (λ i h. let z : i ≡ 0 = omega arith in ap (λ j. holds_wired words (leaf_past t j)) z ∙ ap (holds_wired words) (past_here t low high) ∙ e))
      (λ (e : holds_wired words t ≡ false). inl (ap (holds_wired words) (free_last words t 0 refl) ∙ e))
      (cases_Bool (holds_wired words t))
  free_or_all (suc n) t low high = ⊎_elim
      (λ (e : holds_wired words t ≡ true). ⊎_elim
      (λ f. inl (ap (holds_wired words) (free_more words t (suc n) n (omega arith) e) ∙ f))
      (λ all. inr (later e all))
      (free_or_all n (leaf_after t) (after_low t low high) (after_high t low high)))
      (λ (e : holds_wired words t ≡ false). inl (ap (holds_wired words) (free_here words t (suc n) e) ∙ e))
      (cases_Bool (holds_wired words t))
    where
      later : holds_wired words t ≡ true → ((i : ℕ) → i ≤ n → holds_wired words (leaf_past (leaf_after t) i) ≡ true) → (i : ℕ) → i ≤ suc n → holds_wired words (leaf_past t i) ≡ true
      later e all i h = ⊎_elim
          (λ (z : i ≡ 0). ap (λ j. holds_wired words (leaf_past t j)) z ∙ ap (holds_wired words) (past_here t low high) ∙ e)
          (λ (z : i ≡ 0 → ⊥). ap (holds_wired words) (ap (leaf_past t) (omega arith) ∙ sym (past_after t low high (i - 1))) ∙ all (i - 1) (omega arith))
          (cases_eq i 0)

  -- the position of a wired word in a leaf that holds one
  wired_at : (l : ℕ) (b : Bool) → holds_wired words l ≡ b → ℕ
  wired_at l true e = 512 * l + ((any_wired_is words (512 * l) 512).0 e).0
  wired_at l false e = 0

  wired_at_is : (l : ℕ) (b : Bool) (e : holds_wired words l ≡ b) → b ≡ true → (512 * l ≤ wired_at l b e) × (wired_at l b e < 512 * l + 512) × (wired (get_or words (wired_at l b e) 0) ≡ true)
  unfolding wired_at
  wired_at_is l true e h = let x = (any_wired_is words (512 * l) 512).0 e in (omega arith, omega (arith, x.1), x.2)
  wired_at_is l false e h = absurd (both_ways false refl h)

module _ (st : State) (K : Kept st) where
  pub free_loose : holds_wired st.words (free_leaf st) ≡ false
  free_loose = ⊎_elim (λ f. f) (λ all. absurd (too_many all)) (free_or_all st.words 9 st.next K.next_low K.next_high)
    where
      too_many : ((i : ℕ) → i ≤ 9 → holds_wired st.words (leaf_past st.next i) ≡ true) → ⊥
      too_many all =
          let least = tally_least (wired_leaf st) 8192 10 pick passes apart in
          let few = K.few in
          omega arith
        where
          leaf : ℕ → ℕ
          leaf i = leaf_past st.next i

          pick : ℕ → ℕ
          pick i = wired_at st.words (leaf i) (holds_wired st.words (leaf i)) refl

          picked : (i : ℕ) → i < 10 → (512 * leaf i ≤ pick i) × (pick i < 512 * leaf i + 512) × (wired (get_or st.words (pick i) 0) ≡ true)
          picked i h = wired_at_is st.words (leaf i) (holds_wired st.words (leaf i)) refl (all i (omega arith))

          passes : (i : ℕ) → i < 10 → (pick i < 8192) × (wired_leaf st (pick i) ≡ true)
          passes i h =
              let q = picked i h in
              (omega (arith, q.1), and_from _ _ (le-leb 3072 (pick i) (omega (arith, q.0))) q.2)

          apart : (i j : ℕ) → i < 10 → j < 10 → pick i ≡ pick j → i ≡ j
          apart i j h l e =
              let q = picked i h in
              let r = picked j l in
              let same : leaf i ≡ leaf j = omega (arith, q.0, q.1, r.0, r.1, e) in
              omega (arith, same)

  pub free_low : 6 ≤ free_leaf st
  free_low = (free_range st.words 9 st.next K.next_low K.next_high).0

  pub free_high : free_leaf st ≤ 15
  free_high = (free_range st.words 9 st.next K.next_low K.next_high).1

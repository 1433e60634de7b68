-- Comparing counts: by position, but for one position, and by an injection. Assumes nothing.
use Rattle.std.proofs.Common.{◌≡◌, ℕ, zero, suc, ◌+◌, ◌<◌, ◌≤◌, Bool, true, false, cond, refl, ⊎_elim, arith}
use Rattle.std.proofs.lemmas.Bool.{cases_eq}
use Rattle.pmap.specs.Tally.{tally}
use Rattle.pmap.proofs.Crowds.{Picked, tally_picks, tally_least}

one : Bool → ℕ
one b = cond b 1 0

one_less : (a b : Bool) → (a ≡ true → b ≡ true) → one a ≤ one b
unfolding one
one_less true b h = rw (h refl) (omega arith)
one_less false true h = omega arith
one_less false false h = omega arith

one_most : (a : Bool) → one a ≤ 1
unfolding one
one_most true = omega arith
one_most false = omega arith

module _ (p q : ℕ → Bool) where
  pub tally_less : (n : ℕ) → ((k : ℕ) → k < n → p k ≡ true → q k ≡ true) → tally p n ≤ tally q n
  unfolding tally one
  tally_less zero h = omega arith
  tally_less (suc n) h = omega (arith, tally_less n (λ k l. h k (omega arith)), one_less (p n) (q n) (h n (omega arith)))

  -- below the position that is left out, and past it
  pub tally_but_one : (at n : ℕ) → ((k : ℕ) → k < n → (k ≡ at → ⊥) → p k ≡ true → q k ≡ true) → tally p n ≤ tally q n + 1
  unfolding tally one
  tally_but_one at zero h = omega arith
  tally_but_one at (suc n) h = ⊎_elim
      (λ (e : n ≡ at).
      let less = tally_less n (λ k l. h k (omega arith) (omega arith)) in
      omega (arith, less, one_most (p n)))
      (λ (e : n ≡ at → ⊥).
      let less = tally_but_one at n (λ k l. h k (omega arith)) in
      omega (arith, less, one_less (p n) (q n) (h n (omega arith) e)))
      (cases_eq n at)

  -- different numbers that pass the first go to different numbers that pass the second
  pub tally_inject : (n m : ℕ) (f : ℕ → ℕ) → ((k : ℕ) → k < n → p k ≡ true → (f k < m) × (q (f k) ≡ true))
      → ((j k : ℕ) → j < n → k < n → p j ≡ true → p k ≡ true → f j ≡ f k → j ≡ k) → tally p n ≤ tally q m
  tally_inject n m f goes apart =
      tally_least q m (tally p n) (λ i. f (P.pick i)) (λ i h. goes (P.pick i) (P.below i h) (P.passes i h))
      (λ i j h l e. P.apart i j h l (apart (P.pick i) (P.pick j) (P.below i h) (P.below j l) (P.passes i h) (P.passes j l) e))
    where
      P : Picked p n (tally p n)
      P = tally_picks p n (tally p n) (omega arith)

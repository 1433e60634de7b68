-- Laws of counts.
use Rattle.std.proofs.Common.{◌≡◌, ℕ, zero, suc, ◌+◌, ◌<◌, Bool, true, false, cond, refl, sym, ap, ◌∙◌, ⊎_elim, arith}
use Rattle.std.proofs.lemmas.Bool.{cases_eq}
use Rattle.pmap.specs.Tally.{tally}

-- none of the numbers below n passes
pub tally_zero : (test : ℕ → Bool) (n : ℕ) → ((k : ℕ) → k < n → test k ≡ false) → tally test n ≡ 0
unfolding tally
tally_zero test zero none = refl
tally_zero test (suc n) none = rw (none n (omega arith)) (omega (arith, tally_zero test n (λ k h. none k (omega arith))))

-- two tests agree below n
pub tally_same : (f g : ℕ → Bool) (n : ℕ) → ((k : ℕ) → k < n → f k ≡ g k) → tally f n ≡ tally g n
unfolding tally
tally_same f g zero h = refl
tally_same f g (suc n) h = rw (h n (omega arith), tally_same f g n (λ k q. h k (omega arith))) refl

-- two tests agree but at one number, which the second never passes
module _ (all beside : ℕ → Bool) (o : ℕ) (other : (k : ℕ) → (k ≡ o → ⊥) → beside k ≡ all k) (own : beside o ≡ false) where
  split : (n : ℕ) → o < n → tally beside n + cond (all o) 1 0 ≡ tally all n
  unfolding tally
  split zero h = absurd (omega arith)
  split (suc n) h = ⊎_elim
      (λ (e : n ≡ o).
      let below = tally_same beside all n (λ k q. other k (λ z. omega arith)) in
      let here : beside n ≡ false = ap beside e ∙ own in
      rw (here, below, ap all e) (omega arith))
      (λ (ne : n ≡ o → ⊥). let more = split n (omega arith) in rw (other n ne) (omega (arith, more)))
      (cases_eq n o)

  pub tally_beside_hit : (n : ℕ) → o < n → all o ≡ true → tally beside n + 1 ≡ tally all n
  tally_beside_hit n h e = rw e at (split n h)

  pub tally_beside_miss : (n : ℕ) → all o ≡ false → tally beside n ≡ tally all n
  tally_beside_miss n e = tally_same beside all n (λ k q. ⊎_elim
      (λ (z : k ≡ o). ap beside z ∙ own ∙ sym (ap all z ∙ e))
      (λ (ne : k ≡ o → ⊥). other k ne)
      (cases_eq k o))

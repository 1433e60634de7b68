-- The wired slots, counted with one of them and without it. Assumes nothing.
use Rattle.std.proofs.Common.{◌≡◌, ℕ, ◌+◌, ◌<◌, true, false, not, ◌&&◌, Some, None, refl, ap, ◌∙◌}
use Rattle.std.proofs.Math.Bool.{and-true}
use Rattle.std.proofs.lemmas.Bool.{eq-eqb, ne_eqb, and_right}
use Rattle.pmap.specs.Tally.{tally}
use Rattle.slots.proofs.Tally.{tally_same, tally_beside_hit, tally_beside_miss}
use Rattle.powerpc_words.specs.State.{State, wired_at}
use Rattle.powerpc_words.specs.Answers.{wired_beside}

module _ (st : State) where
  pub beside_none : (n : ℕ) → tally (wired_beside st None) n ≡ tally (wired_at st) n
  unfolding wired_beside
  beside_none n = tally_same (wired_beside st None) (wired_at st) n (λ k q. and-true (wired_at st k))

  module _ (o : ℕ) where
    other : (k : ℕ) → (k ≡ o → ⊥) → wired_beside st (Some o) k ≡ wired_at st k
    unfolding wired_beside
    other k ne = ap (λ b. wired_at st k && not b) (ne_eqb k o ne) ∙ and-true (wired_at st k)

    own : wired_beside st (Some o) o ≡ false
    unfolding wired_beside
    own = and_right (wired_at st o) _ (ap not (eq-eqb o o refl))

    pub beside_wired : (n : ℕ) → o < n → wired_at st o ≡ true → tally (wired_beside st (Some o)) n + 1 ≡ tally (wired_at st) n
    beside_wired = tally_beside_hit (wired_at st) (wired_beside st (Some o)) o other own

    pub beside_unwired : (n : ℕ) → o < n → wired_at st o ≡ false → tally (wired_beside st (Some o)) n ≡ tally (wired_at st) n
    beside_unwired n h = tally_beside_miss (wired_at st) (wired_beside st (Some o)) o other own n

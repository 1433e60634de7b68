-- The wired leaf words, counted with that of a walk and without it. Assumes nothing.
use Rattle.std.proofs.Common.{◌≡◌, ℕ, ◌+◌, ◌<◌, ◌≤◌, true, false, not, ◌&&◌, Some, None, refl, ap, ◌∙◌}
use Rattle.std.proofs.Math.Bool.{and-true}
use Rattle.std.proofs.lemmas.Bool.{eq-eqb, ne_eqb, and_right, le-leb}
use Rattle.pmap.specs.Tally.{tally}
use Rattle.slots.proofs.Tally.{tally_beside_hit, tally_beside_miss}
use Rattle.x86_words.specs.Words.{wired}
use Rattle.x86_words.specs.declared.walk.Walk.{Walk}
use Rattle.x86_words.specs.State.{State, word_at, is_leaf, wired_other, wired_beside}

module _ (st : State) where
  -- the leaf words that are wired
  pub beside_none : (k : ℕ) → 3072 ≤ k → wired_beside st None k ≡ wired (word_at st k)
  beside_none k h = ap (λ b. b && wired_other st None k) (le-leb 3072 k h) ∙ and-true (wired (word_at st k))

  module _ (w : Walk) where
    other : (k : ℕ) → (k ≡ w.leaf → ⊥) → wired_beside st (Some w) k ≡ wired_beside st None k
    other k ne = ap (λ b. is_leaf k && (wired (word_at st k) && not b)) (ne_eqb k w.leaf ne)

    own : wired_beside st (Some w) w.leaf ≡ false
    own = and_right (is_leaf w.leaf) _ (and_right (wired (word_at st w.leaf)) _ (ap not (eq-eqb w.leaf w.leaf refl)))

    pub beside_wired : w.leaf < 8192 → wired_beside st None w.leaf ≡ true → tally (wired_beside st (Some w)) 8192 + 1 ≡ tally (wired_beside st None) 8192
    beside_wired h e = tally_beside_hit (wired_beside st None) (wired_beside st (Some w)) w.leaf other own 8192 h e

    pub beside_unwired : wired_beside st None w.leaf ≡ false → tally (wired_beside st (Some w)) 8192 ≡ tally (wired_beside st None) 8192
    beside_unwired e = tally_beside_miss (wired_beside st None) (wired_beside st (Some w)) w.leaf other own 8192 e

-- The accessed bit goes on in a word above the leaves: nothing of the view changes.
use Rattle.std.proofs.Common.{◌≡◌, ℕ, ◌+◌, ◌*◌, ◌%◌, ◌<◌, ◌≤◌, sym, refl, ap, ◌∙◌, inl, inr, ⊎_elim, arith}
use Rattle.std.proofs.lemmas.Bool.{cases_eq}
use Rattle.std.proofs.lemmas.List.{get_or-set_same, get_or-set_other, length-set}
use Rattle.pmap.specs.Meaning.{Same}
use Rattle.slots.proofs.Shown.{unchanged_same}
use Rattle.x86_words.specs.Words.{wired, touched}
use Rattle.x86_words.specs.State.{State, word_at, rewritten}
use Rattle.x86_pmap.specs.Kept.{Kept}
use Rattle.x86_pmap.specs.Views.{view_of}
use Rattle.x86_pmap.proofs.Tables.{table, slot_in, Reaches, table_shows}
use Rattle.x86_pmap.proofs.Keeps.{Alike, kin_kept, fewer}
use Rattle.x86_pmap.proofs.Follows.{reaches_on, both_slots}

-- u is st but for accessed bits above the leaves
pub record Touching (st u : State) : Type 0 where
  pub kept : Kept u
  pub same : Same (view_of st) (view_of u)
  pub reaches : (n t : ℕ) → Reaches st n t → Reaches u n t
  pub leaf : (k : ℕ) → 3072 ≤ k → word_at u k ≡ word_at st k
  pub marks : u.marks ≡ st.marks

pub touching_more : (a b c : State) → Touching a b → Touching b c → Touching a c
touching_more a b c p q = record {
  kept = q.kept;
  same = record { held = λ s g. q.same.held s g ∙ p.same.held s g; marks = q.same.marks ∙ p.same.marks };
  reaches = λ n t r. q.reaches n t (p.reaches n t r);
  leaf = λ k h. q.leaf k h ∙ p.leaf k h;
  marks = q.marks ∙ p.marks;
}

module _ (st : State) (K : Kept st) (at : ℕ) (low : at < 3072) (some : word_at st at ≡ 0 → ⊥) where
  pub touch : Touching st (rewritten st at touched)
  touch = record {
    kept = L;
    same = unchanged_same (table st) (table u) (view_of st) (view_of u) (table_shows st K) (table_shows u L)
        (record { slots = both_slots st u K L upper (λ n a b. b ≡ a) (λ n. refl) (λ n t r. ap (slot_in n) (leaf (512 * t + n % 512) (omega (arith, r.low)))); marks = λ f. refl });
    reaches = reaches_on st u K L upper;
    leaf = leaf;
    marks = refl;
  }
    where
      u : State
      u = rewritten st at touched

      there : (k : ℕ) → (k ≡ at → ⊥) → word_at u k ≡ word_at st k
      there k far = get_or-set_other st.words at k (touched (word_at st at)) 0 far

      leaf : (k : ℕ) → 3072 ≤ k → word_at u k ≡ word_at st k
      leaf k h = there k (omega arith)

      upper : (k : ℕ) → k < 3072 → Alike (word_at st k) (word_at u k)
      upper k h = ⊎_elim
          (λ (e : k ≡ at). rw e (inr (some, get_or-set_same st.words at (touched (word_at st at)) 0 (omega (arith, K.size)))))
          (λ (e : k ≡ at → ⊥). inl (there k e))
          (cases_eq k at)

      L : Kept u
      L = kin_kept st u K
          (record {
            size = length-set st.words at (touched (word_at st at)) ∙ K.size;
            marked = K.marked;
            next = refl;
            upper = upper;
            lower = λ k p h. ⊎_elim (λ z. inl (leaf k p ∙ z)) (λ m. rw (leaf k p) (inr m)) (K.leaves k p h);
          })
          (fewer st u K (λ k p h e. sym (ap wired (leaf k p)) ∙ e))

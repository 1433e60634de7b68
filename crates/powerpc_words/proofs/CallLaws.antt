-- What a call leaves and answers, by what its searches found.
use Rattle.std.proofs.Common.{◌≡◌, ℕ, Bool, true, false, Some, None, ap, ◌∙◌}
use Rattle.std.proofs.lemmas.Bool.{cond-true, cond-false}
use Rattle.pmap.specs.Meaning.{allows, answered}
use Rattle.pmap.specs.declared.access.Access.TheVariants.{Hit, Miss}
use Rattle.powerpc_words.specs.Fields.{frame_of, protection_of, touched, lowered}
use Rattle.powerpc_words.specs.State.{State, second, wired_at}
use Rattle.powerpc_words.specs.Search.{lookup, unused, victim}
use Rattle.powerpc_words.specs.Changes.{emptied, emptied_at, removed, forgotten, filled, placed, reworded, accessed, accessed_at, restricted, lowered_at, unwired, unwired_at}
use Rattle.powerpc_words.specs.Answers.{holds, mapping_at}

module _ (st : State) (s p : ℕ) where
  module _ (missed : lookup st.words s p ≡ None) where
    pub removed_none : removed st s p ≡ st
    unfolding removed
    removed_none = ap (emptied_at st) missed

    pub restricted_none : restricted st s p ≡ st
    unfolding restricted
    restricted_none = ap (lowered_at st) missed

    pub unwired_none : unwired st s p ≡ st
    unfolding unwired
    unwired_none = ap (unwired_at st) missed

    pub accessed_none : (write : Bool) → accessed st s p write ≡ st
    unfolding accessed
    accessed_none write = ap (λ o. accessed_at st o write) missed

    pub holds_none : holds st s p ≡ None
    unfolding holds
    holds_none = ap (mapping_at st) missed

  module _ (k : ℕ) (found : lookup st.words s p ≡ Some k) where
    pub removed_some : removed st s p ≡ emptied st k
    unfolding removed
    removed_some = ap (emptied_at st) found

    pub restricted_some : restricted st s p ≡ reworded st k (lowered (second st k))
    unfolding restricted
    restricted_some = ap (lowered_at st) found

    pub unwired_some : unwired st s p ≡ unwired_at st (Some k)
    unfolding unwired
    unwired_some = ap (unwired_at st) found

    pub accessed_denied : (write : Bool) → allows (protection_of (second st k)) write ≡ false → accessed st s p write ≡ st
    unfolding accessed
    accessed_denied write e = ap (λ o. accessed_at st o write) found ∙ cond-false _ _ _ e

    pub accessed_hit : (write : Bool) → allows (protection_of (second st k)) write ≡ true → accessed st s p write ≡ reworded st k (touched write (second st k))
    unfolding accessed
    accessed_hit write e = ap (λ o. accessed_at st o write) found ∙ cond-true _ _ _ e

    pub holds_some : holds st s p ≡ Some (frame_of (second st k), protection_of (second st k), wired_at st k)
    unfolding holds
    holds_some = ap (mapping_at st) found

  -- the answer to an access
  pub answered_none : (write : Bool) → lookup st.words s p ≡ None → answered (holds st s p) write ≡ Miss
  answered_none write missed = ap (λ o. answered o write) (holds_none missed)

  pub answered_denied : (k : ℕ) (write : Bool) → lookup st.words s p ≡ Some k → allows (protection_of (second st k)) write ≡ false → answered (holds st s p) write ≡ Miss
  answered_denied k write found e = ap (λ o. answered o write) (holds_some k found) ∙ cond-false _ _ _ e

  pub answered_hit : (k : ℕ) (write : Bool) → lookup st.words s p ≡ Some k → allows (protection_of (second st k)) write ≡ true → answered (holds st s p) write ≡ Hit (frame_of (second st k))
  answered_hit k write found e = ap (λ o. answered o write) (holds_some k found) ∙ cond-true _ _ _ e

  module _ (f q : ℕ) (wired : Bool) where
    pub placed_unused : (k : ℕ) → unused st.words s p ≡ Some k → placed st s p f q wired ≡ filled st k s p f q wired
    unfolding placed
    placed_unused k e = rw e

    pub placed_victim : (k : ℕ) → unused st.words s p ≡ None → victim st s p ≡ Some k → placed st s p f q wired ≡ filled (forgotten st k) k s p f q wired
    unfolding placed
    placed_victim k e v = rw (e, v)

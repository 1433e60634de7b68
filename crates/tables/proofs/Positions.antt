-- What the position of the first element that passes a test tells of the list. Assumes nothing.
use Rattle.std.proofs.Common.{◌≡◌, ℕ, ◌<◌, Bool, true, false, List, [], ◌∷◌, length, get_or, set, is_some, Some, None, sym, refl, ap, ◌∙◌, ⊎_elim, add-one}
use Rattle.std.specs.List.{remove}
use Rattle.std.proofs.lemmas.Bool.{cases_Bool, cond-false, or_parts}
use Rattle.rules.specs.Lists.{first, place, any, without, changed}
use Rattle.rules.proofs.Lists.{placed, place_some, place_none, first_none}

pub without_none : {A : Type 0} (test : A → Bool) (xs : List A) → any test xs ≡ false → without test xs ≡ xs
unfolding any without
without_none test [] e = refl
without_none test (x ∷ xs) e =
    let parts = or_parts (test x) (any test xs) e in cond-false _ _ _ parts.0 ∙ ap (◌∷◌ x) (without_none test xs parts.1)

module _ {A : Type 0} (test : A → Bool) (xs : List A) where
  pub any_place : any test xs ≡ is_some (place test xs)
  any_place = ⊎_elim
      (λ (e : any test xs ≡ true). e ∙ sym (ap is_some (place_some test xs e).1))
      (λ (e : any test xs ≡ false). e ∙ sym (ap is_some (place_none test xs e)))
      (cases_Bool (any test xs))

  pub place_inside : (i : ℕ) → place test xs ≡ Some i → i < length xs
  place_inside i e = (placed test xs i e).inside

  pub place_any : (i : ℕ) → place test xs ≡ Some i → any test xs ≡ true
  place_any i e = any_place ∙ ap is_some e

  -- the element there is the first that passes
  pub place_first : (i : ℕ) (d : A) → place test xs ≡ Some i → first test xs ≡ Some (get_or xs i d)
  place_first i d e = (placed test xs i e).found d

  -- the list with that position taken out, or set
  pub removed_is : (i : ℕ) → place test xs ≡ Some i → remove xs i ≡ without test xs
  removed_is i e = sym ((placed test xs i e).removed ∙ simp add-one)

  pub set_is : (f : A → A) (i : ℕ) (d : A) → place test xs ≡ Some i → set xs i (f (get_or xs i d)) ≡ changed test f xs
  set_is f i d e = sym ((placed test xs i e).put f d)

  -- where there is none
  pub nowhere_any : place test xs ≡ None → any test xs ≡ false
  nowhere_any e = any_place ∙ ap is_some e

  pub nowhere_first : place test xs ≡ None → first test xs ≡ None
  nowhere_first e = first_none test xs (nowhere_any e)

  pub nowhere_without : place test xs ≡ None → without test xs ≡ xs
  nowhere_without e = without_none test xs (nowhere_any e)

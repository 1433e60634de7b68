-- The first element that passes a test: where it stands, and the list without it or with it changed. Assumes nothing.
use Rattle.std.proofs.Common.{◌≡◌, ℕ, suc, ◌+◌, ◌<◌, ◌≤◌, Bool, true, false, cond, ltb, ◌||◌, List, [], ◌∷◌, ◌++◌, length, get_or, take, drop, set, is_some, Some, None, Option, sym, refl, ap, ◌∙◌, ⊎_elim, add-one, one-add, arith}
use Rattle.std.specs.List.{AllByRecursion, position_or_len}
use Rattle.std.proofs.lemmas.Bool.{cases_Bool, cases_lt, cond-true, cond-false, lt-ltb, le-ltb, or_parts, or_left, or_right}
use Rattle.rules.specs.Lists.{first, place, any, without, changed}

-- two different constructors are never equal: `cc` gives the equation of the numbers
pub never : {B : Type 0} → ◌≡◌ {A = ℕ} 0 1 → B
never e = absurd (omega arith)

-- a position in the rest of a list
abbrev pub further : Option ℕ → Option ℕ
further None = None
further (Some i) = Some (suc i)

one_further : (n m : ℕ) → cond (ltb (1 + n) (suc m)) (Some (1 + n)) None ≡ further (cond (ltb n m) (Some n) None)
one_further n m = ⊎_elim
    (λ (h : n < m). cond-true _ _ _ (lt-ltb (1 + n) (suc m) (omega arith)) ∙ ap Some (one-add n) ∙ sym (ap further (cond-true _ _ _ (lt-ltb n m h))))
    (λ (h : m ≤ n). cond-false _ _ _ (le-ltb (1 + n) (suc m) (omega arith)) ∙ sym (ap further (cond-false _ _ _ (le-ltb n m h))))
    (cases_lt n m)

module _ {A : Type 0} (test : A → Bool) where
  -- one element

  pub first_hit : (x : A) (xs : List A) → test x ≡ true → first test (x ∷ xs) ≡ Some x
  unfolding first
  first_hit x xs e = simp e

  pub first_miss : (x : A) (xs : List A) → test x ≡ false → first test (x ∷ xs) ≡ first test xs
  unfolding first
  first_miss x xs e = simp e

  pub place_hit : (x : A) (xs : List A) → test x ≡ true → place test (x ∷ xs) ≡ Some 0
  unfolding place
  place_hit x xs e = simp e (cond-true _ _ _ (lt-ltb 0 (suc (length xs)) (omega arith)))

  pub place_miss : (x : A) (xs : List A) → test x ≡ false → place test (x ∷ xs) ≡ further (place test xs)
  unfolding place
  place_miss x xs e = simp e (one_further (position_or_len test xs) (length xs))

  pub any_hit : (x : A) (xs : List A) → test x ≡ true → any test (x ∷ xs) ≡ true
  unfolding any
  any_hit x xs e = simp e

  -- whether there is one

  pub any_first : (xs : List A) → any test xs ≡ is_some (first test xs)
  unfolding any first
  any_first [] = refl
  any_first (x ∷ xs) = ⊎_elim
      (λ (e : test x ≡ true). simp e)
      (λ (e : test x ≡ false). simp e (any_first xs))
      (cases_Bool (test x))

  pub first_none : (xs : List A) → any test xs ≡ false → first test xs ≡ None
  unfolding any first
  first_none [] e = refl
  first_none (x ∷ xs) e =
      let parts = or_parts (test x) (any test xs) e in
      simp parts.0 (first_none xs parts.1)

  pub first_some : (xs : List A) → any test xs ≡ true → (y : A) × (first test xs ≡ Some y)
  unfolding any first
  first_some [] e = never (cc)
  first_some (x ∷ xs) e = ⊎_elim
      (λ (t : test x ≡ true). (x, simp t))
      (λ (t : test x ≡ false). let rest = first_some xs (simp t at e) in (rest.0, simp t rest.1))
      (cases_Bool (test x))

  pub first_passes : (xs : List A) (y : A) → first test xs ≡ Some y → test y ≡ true
  unfolding first
  first_passes [] y e = never (cc)
  first_passes (x ∷ xs) y e = ⊎_elim
      (λ (t : test x ≡ true). let k : Some x ≡ Some y = simp t at e in let same : x ≡ y = cc in ap test (sym same) ∙ t)
      (λ (t : test x ≡ false). first_passes xs y (simp t at e))
      (cases_Bool (test x))

  -- what holds of all elements holds of the first that passes
  pub first_all_of : (P : A → Type 0) (xs : List A) (y : A) → AllByRecursion P xs → first test xs ≡ Some y → P y
  unfolding first
  first_all_of P [] y all e = never (cc)
  first_all_of P (x ∷ xs) y all e = ⊎_elim
      (λ (t : test x ≡ true). let k : Some x ≡ Some y = simp t at e in let same : x ≡ y = cc in rw same at all.0)
      (λ (t : test x ≡ false). first_all_of P xs y all.1 (simp t at e))
      (cases_Bool (test x))

  pub all_false : (xs : List A) → any test xs ≡ false → AllByRecursion (λ x. test x ≡ false) xs
  unfolding any
  all_false [] e = tt
  all_false (x ∷ xs) e = let parts = or_parts (test x) (any test xs) e in (parts.0, all_false xs parts.1)

  pub any_append : (xs ys : List A) → any test (xs ++ ys) ≡ (any test xs || any test ys)
  unfolding any
  any_append [] ys = refl
  any_append (x ∷ xs) ys = ⊎_elim
      (λ (e : test x ≡ true). simp e)
      (λ (e : test x ≡ false). simp e (any_append xs ys))
      (cases_Bool (test x))

  pub any_push : (xs : List A) (y : A) → test y ≡ true → any test (xs ++ (y ∷ [])) ≡ true
  any_push xs y e = any_append xs (y ∷ []) ∙ or_right (any test xs) (any test (y ∷ [])) (any_hit y [] e)

  pub any_push_old : (xs : List A) (y : A) → any test xs ≡ true → any test (xs ++ (y ∷ [])) ≡ true
  any_push_old xs y e = any_append xs (y ∷ []) ∙ or_left (any test xs) (any test (y ∷ [])) e

  pub any_push_other : (xs : List A) (y : A) → test y ≡ false → any test (xs ++ (y ∷ [])) ≡ any test xs
  unfolding any
  any_push_other [] y e = simp e
  any_push_other (x ∷ xs) y e = ap (λ b. test x || b) (any_push_other xs y e)

  -- the list without it

  pub length_without : (xs : List A) → any test xs ≡ true → length (without test xs) + 1 ≡ length xs
  unfolding any without
  length_without [] e = never (cc)
  length_without (x ∷ xs) e = ⊎_elim
      (λ (t : test x ≡ true). simp t (omega arith))
      (λ (t : test x ≡ false). let rest = length_without xs (simp t at e) in simp t (omega arith))
      (cases_Bool (test x))

  pub length_without_le : (xs : List A) → length (without test xs) ≤ length xs
  unfolding without
  length_without_le [] = omega arith
  length_without_le (x ∷ xs) = ⊎_elim
      (λ (t : test x ≡ true). simp t (omega arith))
      (λ (t : test x ≡ false). let rest = length_without_le xs in simp t (omega arith))
      (cases_Bool (test x))

  pub all_without : (P : A → Type 0) (xs : List A) → AllByRecursion P xs → AllByRecursion P (without test xs)
  unfolding without
  all_without P [] all = tt
  all_without P (x ∷ xs) all = ⊎_elim
      (λ (t : test x ≡ true). simp t all.1)
      (λ (t : test x ≡ false). simp t (all.0, all_without P xs all.1))
      (cases_Bool (test x))

  -- another test, that no element passes together with this one
  pub any_without : (other : A → Bool) → ((x : A) → test x ≡ true → other x ≡ false) → (xs : List A) → any other (without test xs) ≡ any other xs
  unfolding any without
  any_without other apart [] = refl
  any_without other apart (x ∷ xs) = ⊎_elim
      (λ (t : test x ≡ true). let o = apart x t in simp (t, o))
      (λ (t : test x ≡ false). simp t (ap (λ b. other x || b) (any_without other apart xs)))
      (cases_Bool (test x))

  -- the list with it changed

  pub length_changed : (f : A → A) (xs : List A) → length (changed test f xs) ≡ length xs
  unfolding changed
  length_changed f [] = refl
  length_changed f (x ∷ xs) = ⊎_elim
      (λ (t : test x ≡ true). simp t)
      (λ (t : test x ≡ false). simp t (ap suc (length_changed f xs)))
      (cases_Bool (test x))

  pub all_changed : (f : A → A) (P : A → Type 0) → ((x : A) → P x → P (f x)) → (xs : List A) → AllByRecursion P xs → AllByRecursion P (changed test f xs)
  unfolding changed
  all_changed f P keep [] all = tt
  all_changed f P keep (x ∷ xs) all = ⊎_elim
      (λ (t : test x ≡ true). simp t (keep x all.0, all.1))
      (λ (t : test x ≡ false). simp t (all.0, all_changed f P keep xs all.1))
      (cases_Bool (test x))

  -- its position

  pub place_none : (xs : List A) → any test xs ≡ false → place test xs ≡ None
  unfolding any place
  place_none [] e = refl
  place_none (x ∷ xs) e =
      let parts = or_parts (test x) (any test xs) e in
      place_miss x xs parts.0 ∙ ap further (place_none xs parts.1)

  pub place_some : (xs : List A) → any test xs ≡ true → (i : ℕ) × (place test xs ≡ Some i)
  unfolding any place
  place_some [] e = never (cc)
  place_some (x ∷ xs) e = ⊎_elim
      (λ (t : test x ≡ true). (0, place_hit x xs t))
      (λ (t : test x ≡ false). let rest = place_some xs (simp t at e) in (suc rest.0, place_miss x xs t ∙ ap further rest.1))
      (cases_Bool (test x))

-- what the position of the first element that passes tells
pub record Placed {A : Type 0} (test : A → Bool) (xs : List A) (i : ℕ) : Type 0 where
  pub inside : i < length xs
  pub passes : (d : A) → test (get_or xs i d) ≡ true
  pub found : (d : A) → first test xs ≡ Some (get_or xs i d)
  pub removed : without test xs ≡ take i xs ++ drop (i + 1) xs
  pub put : (f : A → A) (d : A) → changed test f xs ≡ set xs i (f (get_or xs i d))

placed_later : {A : Type 0} (test : A → Bool) (x : A) (xs : List A) (j : ℕ) → test x ≡ false → Placed test xs j → Placed test (x ∷ xs) (suc j)
unfolding first without changed
placed_later test x xs j t p = record {
  inside = (let h = p.inside in omega arith);
  passes = p.passes;
  found = λ d. simp t (p.found d);
  removed = simp (t, add-one) (ap (◌∷◌ x) (p.removed ∙ simp add-one));
  put = λ f d. simp t (ap (◌∷◌ x) (p.put f d));
}

pub placed : {A : Type 0} (test : A → Bool) (xs : List A) (i : ℕ) → place test xs ≡ Some i → Placed test xs i
unfolding place first without changed
placed test [] i e = never (cc)
placed {A} test (x ∷ xs) i e = ⊎_elim
    (λ (t : test x ≡ true). here t (sym (place_hit test x xs t) ∙ e))
    (λ (t : test x ≡ false). later t (place test xs) (λ j. placed test xs j) (sym (place_miss test x xs t) ∙ e))
    (cases_Bool (test x))
  where
    here : test x ≡ true → Some 0 ≡ Some i → Placed test (x ∷ xs) i
    here t k =
        let zeroth : 0 ≡ i = cc in
        let p : Placed test (x ∷ xs) 0 = record { inside = omega arith; passes = λ d. t; found = λ d. simp t; removed = simp t; put = λ f d. simp t } in
        rw zeroth at p

    later : test x ≡ false → (o : Option ℕ) → ((j : ℕ) → o ≡ Some j → Placed test xs j) → further o ≡ Some i → Placed test (x ∷ xs) i
    later t None rest k = never (cc)
    later t (Some j) rest k =
        let next : suc j ≡ i = cc in
        let p : Placed test (x ∷ xs) (suc j) = placed_later test x xs j t (rest j refl) in
        rw next at p

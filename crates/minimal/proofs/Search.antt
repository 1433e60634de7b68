-- The search for the slot of a place, step by step. Assumes nothing.
use Rattle.std.proofs.Common.{◌≡◌, ℕ, ◌+◌, ◌<◌, ◌≤◌, Bool, true, false, not, ltb, ⊎_elim, cond, List, [], ◌∷◌, length, get_or, drop, Some, None, Option, refl, ap, ◌∙◌, arith}
use Rattle.std.specs.Option.{option_flatten}
use Rattle.std.specs.List.{find, position, position_or_len}
use Rattle.std.proofs.lemmas.Bool.{cond-true, cond-false, cases_lt, lt-ltb, not-true}
use Rattle.std.proofs.lemmas.List.{at_drop_more, at_drop_all}
use Rattle.std.proofs.lemmas.List.Sums.{prefix_len_passes}
use Rattle.minimal.specs.declared.entry.Entry.{Entry}
use Rattle.minimal.specs.Entries.{is_at, found}

pub found_none : (s p : ℕ) → found [] s p ≡ None
unfolding found
found_none s p = refl

pub found_hit : (x : Option Entry) (xs : List (Option Entry)) (s p : ℕ) → is_at x s p ≡ true → found (x ∷ xs) s p ≡ x
unfolding found
found_hit x xs s p h = cond-true (is_at x s p) x (found xs s p) h

pub found_miss : (x : Option Entry) (xs : List (Option Entry)) (s p : ℕ) → is_at x s p ≡ false → found (x ∷ xs) s p ≡ found xs s p
unfolding found
found_miss x xs s p h = cond-false (is_at x s p) x (found xs s p) h

-- the same in a loop
module _ (xs : List (Option Entry)) (i s p : ℕ) where
  step : i < length xs → found (drop i xs) s p ≡ found (get_or xs i None ∷ drop (i + 1) xs) s p
  step h = at_drop_more (λ ys. found ys s p) xs i None h

  pub loop_hit : i < length xs → is_at (get_or xs i None) s p ≡ true → found (drop i xs) s p ≡ get_or xs i None
  loop_hit h e = step h ∙ found_hit (get_or xs i None) (drop (i + 1) xs) s p e

  pub loop_miss : i < length xs → is_at (get_or xs i None) s p ≡ false → found (drop i xs) s p ≡ found (drop (i + 1) xs) s p
  loop_miss h e = step h ∙ found_miss (get_or xs i None) (drop (i + 1) xs) s p e

  pub loop_end : length xs ≤ i → found (drop i xs) s p ≡ None
  loop_end h = at_drop_all (λ ys. found ys s p) xs i h ∙ found_none s p

-- as the library searches
flatten_cond : (b : Bool) (x : Option Entry) (rest : Option (Option Entry)) → option_flatten (cond b (Some x) rest) ≡ cond b x (option_flatten rest)
flatten_cond true x rest = refl
flatten_cond false x rest = refl

pub found_by_find : (xs : List (Option Entry)) (s p : ℕ) → option_flatten (find (λ x. is_at x s p) xs) ≡ found xs s p
unfolding found
found_by_find [] s p = refl
found_by_find (x ∷ xs) s p = flatten_cond (is_at x s p) x (find (λ y. is_at y s p) xs) ∙ ap (cond (is_at x s p) x) (found_by_find xs s p)

-- a search for a position that finds none
pub no_position : {X : Type 0} (test : X → Bool) (xs : List X) (d : X) (k : ℕ) → None ≡ position test xs → k < length xs → test (get_or xs k d) ≡ false
no_position test xs d k none small =
    ⊎_elim
    (λ l. let found = none ∙ cond-true (ltb (position_or_len test xs) (length xs)) (Some (position_or_len test xs)) None (lt-ltb (position_or_len test xs) (length xs) l) in
    let z : ◌≡◌ {A = ℕ} 0 1 = cc in absurd (omega arith))
    (λ l. not-true (test (get_or xs k d)) (prefix_len_passes (λ x. not (test x)) xs k d (omega arith)))
    (cases_lt (position_or_len test xs) (length xs))

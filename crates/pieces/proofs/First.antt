-- A text by its first piece: what stands before its first cut.
use Rattle.std.proofs.Common.{◌≡◌, ℕ, suc, ◌+◌, ◌-◌, ◌≤◌, Bool, true, false, cond, not, ltb, leb, List, [], ◌∷◌, ◌++◌, length, take, drop, Some, None, refl, sym, ap, ◌∙◌, arith, append_assoc, append-nil}
use Rattle.std.specs.List.{position_or_len, between}
use Rattle.std.specs.Option.{unwrap_or}
use Rattle.std.proofs.lemmas.List.{drop-drop, length-drop}
use Rattle.std.proofs.lemmas.List.Sums.{prefix_len-le-length}
use Rattle.std.proofs.lemmas.Bool.Decides.{nat_tests}
use Rattle.std.specs.Prelude.{position}
use Rattle.pieces.specs.declared.cut.Cut.{Cut}
use Rattle.pieces.specs.Cuts.{cuts, pieces, pieces_from, pieces_at}

-- what comes behind the first piece
abbrev pub rest_of : Cut → List ℕ → List (List ℕ)
rest_of cut xs = cond (ltb (position_or_len (cuts cut) xs) (length xs)) (pieces_from cut [] (drop (suc (position_or_len (cuts cut) xs)) xs)) []

pub cut_first : (cut : Cut) (piece xs : List ℕ) → pieces_from cut piece xs ≡ (piece ++ take (position_or_len (cuts cut) xs) xs) ∷ rest_of cut xs
unfolding pieces_from
cut_first cut piece [] = ap (λ z. z ∷ []) (sym (append-nil piece))
cut_first cut piece (x ∷ xs) = by (cuts cut x) refl (cut_first cut (piece ++ (x ∷ [])) xs)
  where
    by : (b : Bool) → cuts cut x ≡ b
        → pieces_from cut (piece ++ (x ∷ [])) xs ≡ ((piece ++ (x ∷ [])) ++ take (position_or_len (cuts cut) xs) xs) ∷ rest_of cut xs
        → pieces_from cut piece (x ∷ xs) ≡ (piece ++ take (position_or_len (cuts cut) (x ∷ xs)) (x ∷ xs)) ∷ rest_of cut (x ∷ xs)
    by true e rest =
        let test : ltb 0 (suc (length xs)) ≡ true = grind (arith, nat_tests) in
        simp (e, append-nil, test) refl
    by false e rest =
        let one : 1 + position_or_len (cuts cut) xs ≡ suc (position_or_len (cuts cut) xs) = omega arith in
        let test : ltb (suc (position_or_len (cuts cut) xs)) (suc (length xs)) ≡ ltb (position_or_len (cuts cut) xs) (length xs) = grind (arith, nat_tests) in
        simp (e, one, test) (rw append_assoc at rest)

-- the length of the first piece, as `position` finds it
pub len_is : (p : ℕ → Bool) (xs : List ℕ) → unwrap_or (position p xs) (length xs) ≡ position_or_len p xs
len_is p xs = by (ltb (position_or_len p xs) (length xs)) refl
  where
    by : (b : Bool) → ltb (position_or_len p xs) (length xs) ≡ b → unwrap_or (cond b (Some (position_or_len p xs)) None) (length xs) ≡ position_or_len p xs
    by true e = refl
    by false e =
        let most = prefix_len-le-length (λ x. not (p x)) xs in
        let past : length xs ≤ position_or_len p xs = grind (arith, nat_tests) in
        omega arith

-- the pieces from a place on, by the first of them
pub first_piece : (cut : Cut) (text : List ℕ) (at n : ℕ) → at ≤ length text → n ≡ position_or_len (cuts cut) (drop at text)
    → pieces cut (drop at text) ≡ between at (at + n) text ∷ pieces_at cut text (at + n + 1)
first_piece cut text at n low e =
    let all = cut_first cut [] (drop at text) in
    let len : length (drop at text) ≡ length text - at = length-drop at text in
    let test : ltb n (length (drop at text)) ≡ leb (at + n + 1) (length text) = grind (arith, nat_tests) in
    let width : at + n - at ≡ n = omega arith in
    let tail : drop (suc n) (drop at text) ≡ drop (at + n + 1) text = drop-drop (suc n) at text ∙ ap (λ k. drop k text) (omega arith) in
    (rw (← e, test, tail) at all) ∙ ap (λ k. take k (drop at text) ∷ pieces_at cut text (at + n + 1)) (sym width)

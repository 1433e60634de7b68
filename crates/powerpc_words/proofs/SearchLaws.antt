-- Laws of the searches: proofs cite these, and not the definitions' text.
use Rattle.std.proofs.Common.{◌≡◌, ℕ, zero, suc, ◌+◌, ◌*◌, ◌%◌, Bool, true, false, cond, not, eqb, List, map, get_or, Some, None, sym, refl, ap, ◌∙◌, add_assoc, add-zero}
use Rattle.std.specs.List.{find, range_with_len}
use Rattle.powerpc_words.specs.Hashing.{group, entry_word}
use Rattle.powerpc_words.specs.Search.{slot_from, slot_in, lookup, unused, unwired_from, unwired_in, victim_of}

slot_from_find : (words : List ℕ) (w g at n : ℕ) → slot_from words w (8 * g + at) n ≡ find (λ k. eqb (get_or words (2 * k) 0) w) (map (λ t. 8 * g + t) (range_with_len at n))
unfolding slot_from
slot_from_find words w g at zero = refl
slot_from_find words w g at (suc n) =
    ap (cond (eqb (get_or words (2 * (8 * g + at)) 0) w) (Some (8 * g + at)))
    (rw (add_assoc (8 * g) at 1) (slot_from_find words w g (at + 1) n))

pub slot_in_find : (words : List ℕ) (g w : ℕ) → slot_in words g w ≡ find (λ k. eqb (get_or words (2 * k) 0) w) (map (λ t. 8 * g + t) (range_with_len 0 8))
unfolding slot_in
slot_in_find words g w = ap (λ a. slot_from words w a 8) (sym (add-zero (8 * g))) ∙ slot_from_find words w g 0 8

pub unwired_from_find : (wired : List Bool) (g at n : ℕ) → unwired_from wired g at n ≡ find (λ k. not (get_or wired k false)) (map (λ t. 8 * g + t % 8) (range_with_len at n))
unfolding unwired_from
unwired_from_find wired g at zero = refl
unwired_from_find wired g at (suc n) = elim (get_or wired (8 * g + at % 8) false) as (λ b. cond b (unwired_from wired g (at + 1) n) (Some (8 * g + at % 8)) ≡ cond (not b) (Some (8 * g + at % 8)) (find (λ k. not (get_or wired k false)) (map (λ t. 8 * g + t % 8) (range_with_len (at + 1) n)))) [
  | true ↦ unwired_from_find wired g (at + 1) n
  | false ↦ refl
]

pub unwired_in_find : (wired : List Bool) (g next : ℕ) → unwired_in wired g next ≡ find (λ k. not (get_or wired k false)) (map (λ t. 8 * g + t % 8) (range_with_len next 8))
unfolding unwired_in
unwired_in_find wired g next = unwired_from_find wired g next 8

pub slot_in_is : (words : List ℕ) (g w : ℕ) → slot_in words g w ≡ slot_from words w (8 * g) 8
unfolding slot_in
slot_in_is words g w = refl

pub unwired_in_is : (wired : List Bool) (g next : ℕ) → unwired_in wired g next ≡ unwired_from wired g next 8
unfolding unwired_in
unwired_in_is wired g next = refl

module _ (words : List ℕ) (s p : ℕ) where
  pub lookup_primary : (k : ℕ) → slot_in words (group s p false) (entry_word s p false) ≡ Some k → lookup words s p ≡ Some k
  unfolding lookup
  lookup_primary k e = rw e

  pub lookup_secondary : slot_in words (group s p false) (entry_word s p false) ≡ None → lookup words s p ≡ slot_in words (group s p true) (entry_word s p true)
  unfolding lookup
  lookup_secondary e = rw e

  pub unused_primary : (k : ℕ) → slot_in words (group s p false) 0 ≡ Some k → unused words s p ≡ Some k
  unfolding unused
  unused_primary k e = rw e

  pub unused_secondary : slot_in words (group s p false) 0 ≡ None → unused words s p ≡ slot_in words (group s p true) 0
  unfolding unused
  unused_secondary e = rw e

module _ (wired : List Bool) (next s p : ℕ) where
  pub victim_primary : (k : ℕ) → unwired_in wired (group s p false) next ≡ Some k → victim_of wired next s p ≡ Some k
  unfolding victim_of
  victim_primary k e = rw e

  pub victim_secondary : unwired_in wired (group s p false) next ≡ None → victim_of wired next s p ≡ unwired_in wired (group s p true) next
  unfolding victim_of
  victim_secondary e = rw e

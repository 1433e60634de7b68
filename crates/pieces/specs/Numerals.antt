-- The number that a word of decimal digits writes, up to a greatest one. Assumes nothing of the bytes.
use Rattle.std.specs.Prelude.{ℕ, ◌+◌, ◌-◌, ◌*◌, cond, List, [], ◌∷◌, Ok, Err, Result, nat_le}
use Rattle.std.specs.Char.{is_ascii_digit}
use Rattle.pieces.specs.declared.numeral.Misread.{Misread}
use Rattle.pieces.specs.declared.numeral.Misread.TheVariants.{NoNumber, TooLarge}

-- each digit continues the number before it; the first byte from the left that is no digit, or that makes the number too large, decides
unfoldable pub number_from : ℕ → ℕ → List ℕ → Result ℕ Misread
number_from max n [] = Ok n
number_from max n (c ∷ cs) =
    cond (is_ascii_digit c) (cond (nat_le (10 * n + (c - 48)) max) (number_from max (10 * n + (c - 48)) cs) (Err TooLarge)) (Err NoNumber)

-- no digits are no number
abbrev pub number_in : ℕ → List ℕ → Result ℕ Misread
number_in max [] = Err NoNumber
number_in max (c ∷ cs) = number_from max 0 (c ∷ cs)

-- Each byte decides what the number so far becomes.
use Rattle.std.proofs.Common.{◌≡◌, ℕ, ◌+◌, ◌-◌, ◌*◌, ◌<◌, true, false, cond, leb, List, length, get_or, drop, Err, sym, ◌∙◌, arith}
use Rattle.std.proofs.lemmas.List.{at_drop_more, at_drop_all}
use Rattle.std.proofs.lemmas.Bool.Decides.{nat_tests}
use Rattle.std.specs.Char.{is_ascii_digit}
use Rattle.pieces.specs.declared.numeral.Misread.TheVariants.{NoNumber, TooLarge}
use Rattle.pieces.specs.Numerals.{number_from}
use Rattle.pieces.proofs.numeral.number.Goals as goal

-- the byte at a place, and what it makes of the number so far
here : (max n : ℕ) (word : List ℕ) (i : ℕ) → i < length word
    → number_from max n (drop i word)
    ≡ cond (is_ascii_digit (get_or word i 0)) (cond (leb (10 * n + (get_or word i 0 - 48)) max) (number_from max (10 * n + (get_or word i 0 - 48)) (drop (i + 1) word)) (Err TooLarge)) (Err NoNumber)
unfolding number_from
here max n word i h = at_drop_more (number_from max n) word i 0 h

by_test : (max n m : ℕ) (word : List ℕ) (i : ℕ) → i < length word → true ≡ is_ascii_digit (get_or word i 0) → m ≡ get_or word i 0 - 48
    → number_from max n (drop i word) ≡ cond (leb (10 * n + m) max) (number_from max (10 * n + m) (drop (i + 1) word)) (Err TooLarge)
by_test max n m word i h d e = here max n word i h ∙ rw (← d, e)

pub returns-then-not-is_ascii_digit : goal.returns-then-not-is_ascii_digit
returns-then-not-is_ascii_digit c =
    let at = here c.args.max c.loop-byte.number c.args.word.now c.loop-byte.byte-index c.loop-byte-test.true in
    record { value = sym (rw (← c.if-not-is_ascii_digit.ensures.value) at at) ∙ c.loop-byte.invariant.1; bound = tt }

pub returns-then-number-from : goal.returns-then-number-from
returns-then-number-from c =
    let large : leb (10 * c.loop-byte.number + c.from.result) c.args.max ≡ false = grind (arith, nat_tests, c.if-number-from.true, c.from-in-loop-byte.ensures) in
    let at = by_test c.args.max c.loop-byte.number c.from.result c.args.word.now c.loop-byte.byte-index c.loop-byte-test.true
    c.if-not-is_ascii_digit.ensures.value c.from.ensures in
    record { value = sym (rw large at at) ∙ c.loop-byte.invariant.1; bound = tt }

pub loop-byte-preserved : goal.loop-byte-preserved
loop-byte-preserved c =
    let small : leb (10 * c.loop-byte.number + c.from.result) c.args.max ≡ true = grind (arith, nat_tests, c.if-number-from.false, c.from-in-loop-byte.ensures) in
    let at = by_test c.args.max c.loop-byte.number c.from.result c.args.word.now c.loop-byte.byte-index c.loop-byte-test.true
    c.if-not-is_ascii_digit.ensures.value c.from.ensures in
    (omega (arith, c.if-number-from.false, c.from-in-loop-byte.ensures), sym (rw small at at) ∙ c.loop-byte.invariant.1)

pub returns : goal.returns
unfolding number_from
returns c =
    record { value = sym (at_drop_all (number_from c.args.max c.loop-byte.number) c.args.word.now c.loop-byte.byte-index c.loop-byte-test.false) ∙ c.loop-byte.invariant.1; bound = c.loop-byte.invariant.0 }

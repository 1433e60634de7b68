-- The fields of a word by bit operations, as the code has them.
use Rattle.std.proofs.Common.{◌≡◌, ℕ, ◌+◌, ◌-◌, ◌*◌, ◌/◌, ◌%◌, ◌^◌, ◌<◌, Bool, true, false, not, eqb, ◌⊎◌, ap, ◌∙◌, inl, inr, ⊎_elim, arith, lit<}
use lib.Bits.{bit_and, bit_or, and_high, or_add_and, or_lt, and_mask, and_block}
use Rattle.std.proofs.lemmas.Nat.{pow-add, field_of}
use Rattle.std.proofs.lemmas.Bool.Decides.{nat_tests}
use Rattle.std.proofs.lemmas.Bool.{cases_eq}
use Rattle.powerpc_words.specs.Fields.{bit, with_bit, changed, touched, lowered, cleaned}

-- one bit of a word by a mask
and_bit : (w k : ℕ) → bit_and w (2 ^ k) ≡ bit w k * 2 ^ k
and_bit w k = let e : 2 ^ (1 + k) - 2 ^ k ≡ 2 ^ k = omega (arith, pow-add 2 1 k) in rw e at (and_high w 1 k)

-- a bit put on
or_bit : (w k : ℕ) → bit_or w (2 ^ k) ≡ with_bit w k
or_bit w k = ⊎_elim
    (λ (z : bit w k ≡ 0). rw z (omega (arith, or_add_and w (2 ^ k), rw z at (and_bit w k))))
    (λ (o : bit w k ≡ 1). rw o (omega (arith, or_add_and w (2 ^ k), rw o at (and_bit w k))))
    (two (bit w k) (omega arith))
  where
    two : (n : ℕ) → n < 2 → (n ≡ 0) ⊎ (n ≡ 1)
    two n h = ⊎_elim (λ e. inl e) (λ ne. inr (omega arith)) (cases_eq n 0)

-- a word with bits below the frame's end put on
pub or_below : (w m : ℕ) → w < 1048576 → m < 1048576 → bit_or w m < 1048576
or_below w m h k = or_lt 20 w m h k

pub changed_is : (w : ℕ) → not (eqb (bit_and w 128) 0) ≡ changed w
unfolding changed
changed_is w = grind (arith, nat_tests, and_bit w 7)

pub touched_read : (w : ℕ) (write : Bool) → write ≡ false → bit_or w 256 ≡ touched write w
unfolding touched
touched_read w write e = rw e (or_bit w 8)

pub touched_write : (w : ℕ) (write : Bool) → write ≡ true → bit_or (bit_or w 256) 128 ≡ touched write w
unfolding touched
touched_write w write e = rw e (ap (λ x. bit_or x 128) (or_bit w 8) ∙ or_bit (with_bit w 8) 7)

pub lowered_is : (w : ℕ) → bit_or w 3 ≡ lowered w
unfolding lowered
lowered_is w = omega (arith, or_add_and w 3, and_mask w 2)

-- bit 7 of a 32-bit word put off
pub cleaned_is : (w : ℕ) → w < 2 ^ 20 → bit_and w 4294967167 ≡ cleaned w
unfolding cleaned
cleaned_is w h =
    let split : w ≡ w / 256 * 2 ^ 8 + w % 256 = omega arith in
    let low : w % 256 < 2 ^ 8 = omega arith in
    let b = and_block 8 (w / 256) 16777215 (w % 256) 127 low (lit< tt) in
    ap (λ n. bit_and n 4294967167) split ∙ b ∙ omega (arith, and_mask (w / 256) 24, and_mask (w % 256) 7, field_of w 1 7)

-- One bit of a word, as the code's masks test it, put it on and put it off.
use Rattle.std.proofs.Common.{◌≡◌, ℕ, ◌+◌, ◌-◌, ◌*◌, ◌/◌, ◌%◌, ◌^◌, ◌<◌, ◌⊎◌, not, eqb, inl, inr, ⊎_elim, ap, arith}
use Rattle.std.specs.Int.Bits.{bit_and, bit_or, or_add_and}
use Rattle.std.proofs.lemmas.Nat.{and-not, and_comm, pow_pos, pow_below}
use Rattle.std.proofs.lemmas.Nat.Bits.{and_pow}
use Rattle.std.proofs.lemmas.Bool.{cases_eq, eq-eqb, ne_eqb}
use Rattle.x86_words.specs.declared.word.Bit.{Bit}
use Rattle.x86_words.specs.declared.word.Bit.TheVariants.{Present, Writable, User, Accessed, Dirty, Wired}
use Rattle.x86_words.specs.Words.{place_of}

place_low : (b : Bit) → place_of b < 64
place_low Present = omega arith
place_low Writable = omega arith
place_low User = omega arith
place_low Accessed = omega arith
place_low Dirty = omega arith
place_low Wired = omega arith

module _ (w k : ℕ) where
  two : (w / 2 ^ k % 2 ≡ 0) ⊎ (w / 2 ^ k % 2 ≡ 1)
  two = ⊎_elim (λ e. inl e) (λ ne. inr (omega arith)) (cases_eq (w / 2 ^ k % 2) 0)

  pub test_bit : not (eqb (bit_and w (2 ^ k)) 0) ≡ eqb (w / 2 ^ k % 2) 1
  test_bit = ⊎_elim
      (λ (z : w / 2 ^ k % 2 ≡ 0). rw z (ap not (eq-eqb _ 0 (omega (arith, rw z at (and_pow w k))))))
      (λ (o : w / 2 ^ k % 2 ≡ 1). rw o (ap not (ne_eqb _ 0 (omega (arith, rw o at (and_pow w k), pow_pos k)))))
      two

  pub or_bit : bit_or w (2 ^ k) ≡ w + (1 - w / 2 ^ k % 2) * 2 ^ k
  or_bit = ⊎_elim
      (λ (z : w / 2 ^ k % 2 ≡ 0). rw z (omega (arith, or_add_and w (2 ^ k), rw z at (and_pow w k))))
      (λ (o : w / 2 ^ k % 2 ≡ 1). rw o (omega (arith, or_add_and w (2 ^ k), rw o at (and_pow w k))))
      two

pub and_not_bit : (w : ℕ) (b : Bit) → w < 2 ^ 64 → bit_and w (2 ^ 64 - 1 - 2 ^ place_of b) ≡ w - w / 2 ^ place_of b % 2 * 2 ^ place_of b
and_not_bit w b h =
    let m = 2 ^ place_of b in
    let e = and-not 64 m w (pow_below (place_of b) 64 (place_low b)) h in
    omega (arith, e, and_comm w (2 ^ 64 - 1 - m), and_comm w m, and_pow w (place_of b))

-- What a change of a second word does to its fields.
use Rattle.std.proofs.Common.{◌≡◌, ℕ, ◌+◌, ◌-◌, ◌*◌, ◌/◌, ◌%◌, ◌<◌, Bool, true, false, cond, eqb, ◌⊎◌, refl, ap, ◌∙◌, inl, inr, ⊎_elim, arith, lit<}
use Rattle.std.proofs.lemmas.Bool.Decides.{nat_tests}
use Rattle.std.proofs.lemmas.Bool.{cases_eq, eq-eqb, cond_both}
use Rattle.powerpc_pmap.specs.Kept.{Shaped}
use Rattle.powerpc_words.specs.Fields.{with_bit, frame_of, changed, protection_of, second_word, pp_of, touched, lowered, cleaned}

pub changed_zero : changed 0 ≡ false
unfolding changed
changed_zero = refl

two : (n : ℕ) → n < 2 → (n ≡ 0) ⊎ (n ≡ 1)
two n h = ⊎_elim (λ e. inl e) (λ ne. inr (omega arith)) (cases_eq n 0)

-- ---- C off
pub cleaned_frame : (w : ℕ) → frame_of (cleaned w) ≡ frame_of w
unfolding cleaned
cleaned_frame w = omega arith

pub cleaned_protection : (w : ℕ) → protection_of (cleaned w) ≡ protection_of w
unfolding cleaned
cleaned_protection w = grind (arith, nat_tests)

pub cleaned_changed : (w : ℕ) → changed (cleaned w) ≡ false
unfolding cleaned changed
cleaned_changed w = grind (arith, nat_tests)

-- ---- R on, and C with a write
r_frame : (w : ℕ) → with_bit w 8 / 4096 ≡ w / 4096
r_frame w = omega arith

c_frame : (w : ℕ) → with_bit w 7 / 4096 ≡ w / 4096
c_frame w = omega arith

pub touched_frame : (write : Bool) (w : ℕ) → frame_of (touched write w) ≡ frame_of w
unfolding touched
touched_frame true w = c_frame (with_bit w 8) ∙ r_frame w
touched_frame false w = r_frame w

low_bits : (w k : ℕ) → (w + (1 - k) * 256) % 4 ≡ w % 4
low_bits w k = omega arith

low_bits_c : (w k : ℕ) → (w + (1 - k) * 128) % 4 ≡ w % 4
low_bits_c w k = omega arith

pub touched_protection : (write : Bool) (w : ℕ) → protection_of (touched write w) ≡ protection_of w
unfolding touched
touched_protection true w = ap (λ x. cond (eqb x 2) 3 1) (low_bits_c (with_bit w 8) (with_bit w 8 / 128 % 2) ∙ low_bits w (w / 256 % 2))
touched_protection false w = ap (λ x. cond (eqb x 2) 3 1) (low_bits w (w / 256 % 2))

pub touched_write_changed : (w : ℕ) → changed (touched true w) ≡ true
unfolding touched changed
touched_write_changed w = eq-eqb _ _ (on (with_bit w 8))
  where
    on : (v : ℕ) → with_bit v 7 / 128 % 2 ≡ 1
    on v = ⊎_elim (λ (z : v / 128 % 2 ≡ 0). rw z (omega arith)) (λ (z : v / 128 % 2 ≡ 1). rw z (omega arith)) (two (v / 128 % 2) (omega arith))

pub touched_read_changed : (w : ℕ) → changed (touched false w) ≡ changed w
unfolding touched changed
touched_read_changed w = grind (arith, nat_tests)

-- ---- protection 1
pub lowered_frame : (w : ℕ) → frame_of (lowered w) ≡ frame_of w
unfolding lowered
lowered_frame w = omega arith

pub lowered_protection : (w : ℕ) → protection_of (lowered w) ≡ 1
unfolding lowered
lowered_protection w = grind (arith, nat_tests)

pub lowered_changed : (w : ℕ) → changed (lowered w) ≡ changed w
unfolding lowered changed
lowered_changed w = grind (arith, nat_tests)

-- ---- a new entry
pp_below : (q : ℕ) → pp_of q < 4
pp_below q = grind (arith, nat_tests)

pub new_frame : (f q : ℕ) → frame_of (second_word f q) ≡ f
new_frame f q = omega (arith, pp_below q)

pub new_changed : (f q : ℕ) → changed (second_word f q) ≡ false
unfolding changed
new_changed f q = grind (arith, nat_tests, pp_below q)

pub new_protection : (f q : ℕ) → (q ≡ 1) ⊎ (q ≡ 3) → protection_of (second_word f q) ≡ q
new_protection f q e = grind (arith, nat_tests)

-- ---- the shape of a second word
pp_small : (n : ℕ) → (n ≡ 2) ⊎ (n ≡ 3) → n < 4
pp_small n e = omega arith

module _ (w : ℕ) (x : Shaped w) where
  pp_fits : x.pp < 4
  pp_fits = pp_small x.pp x.pp_is

  pub shaped_frame : frame_of w < 256
  shaped_frame = omega (arith, x.word, x.frame_below, x.r_below, x.c_below, pp_fits)

  r_bit : w / 256 % 2 ≡ x.r
  r_bit = omega (arith, x.word, x.r_below, x.c_below, pp_fits)

  c_bit : w / 128 % 2 ≡ x.c
  c_bit = omega (arith, x.word, x.r_below, x.c_below, pp_fits)

  low_two : w % 4 ≡ x.pp
  low_two = omega (arith, x.word, x.r_below, x.c_below, pp_fits)

  r_shaped : Shaped (with_bit w 8)
  r_shaped = record {
    frame = x.frame;
    r = 1;
    c = x.c;
    pp = x.pp;
    frame_below = x.frame_below;
    r_below = lit< tt;
    c_below = x.c_below;
    pp_is = x.pp_is;
    word = omega (arith, x.word, r_bit, x.r_below);
  }

  c_shaped : Shaped (with_bit w 7)
  c_shaped = record {
    frame = x.frame;
    r = x.r;
    c = 1;
    pp = x.pp;
    frame_below = x.frame_below;
    r_below = x.r_below;
    c_below = lit< tt;
    pp_is = x.pp_is;
    word = omega (arith, x.word, c_bit, x.c_below);
  }

  pub cleaned_shaped : Shaped (cleaned w)
  unfolding cleaned
  cleaned_shaped = record {
    frame = x.frame;
    r = x.r;
    c = 0;
    pp = x.pp;
    frame_below = x.frame_below;
    r_below = x.r_below;
    c_below = lit< tt;
    pp_is = x.pp_is;
    word = omega (arith, x.word, c_bit);
  }

  pub lowered_shaped : Shaped (lowered w)
  unfolding lowered
  lowered_shaped = record {
    frame = x.frame;
    r = x.r;
    c = x.c;
    pp = 3;
    frame_below = x.frame_below;
    r_below = x.r_below;
    c_below = x.c_below;
    pp_is = inr refl;
    word = omega (arith, x.word, low_two);
  }

pub touched_shaped : (write : Bool) (w : ℕ) → Shaped w → Shaped (touched write w)
unfolding touched
touched_shaped true w x = c_shaped (with_bit w 8) (r_shaped w x)
touched_shaped false w x = r_shaped w x

pub new_shaped : (f q : ℕ) → f < 256 → Shaped (second_word f q)
new_shaped f q h = record {
  frame = f;
  r = 0;
  c = 0;
  pp = pp_of q;
  frame_below = h;
  r_below = lit< tt;
  c_below = lit< tt;
  pp_is = cond_both (eqb q 3) 2 3 (λ n. (n ≡ 2) ⊎ (n ≡ 3)) (λ _. inl refl) (λ _. inr refl);
  word = omega arith;
}

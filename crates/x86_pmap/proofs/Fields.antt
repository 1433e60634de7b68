-- What a change of one bit leaves of a word's fields, and which words the tables hold.
use Rattle.std.proofs.Common.{◌≡◌, ℕ, ◌+◌, ◌-◌, ◌*◌, ◌/◌, ◌%◌, ◌<◌, Bool, true, false, cond, eqb, Some, None, refl, ap, ◌∙◌, arith}
use Rattle.std.proofs.lemmas.Bool.{eq-eqb, ne_eqb, le-leb, lt-ltb, and_from, cond-true}
use Rattle.x86_words.specs.Words.{is_on, put_off, put_on, present, writable, dirty, wired, frame_of, leaf_word, pointer, table_of, points_to, touched, dirtied, cleaned, read_only, unwired}
use Rattle.x86_pmap.specs.Kept.{Points, Mapped}

bit : {m n : ℕ} → m ≡ n → eqb m 1 ≡ eqb n 1
bit e = ap (λ x. eqb x 1) e

module _ (w : ℕ) where
  pub touched_writable : writable (touched w) ≡ writable w
  unfolding is_on put_on
  touched_writable = bit (omega arith)

  pub touched_dirty : dirty (touched w) ≡ dirty w
  unfolding is_on put_on
  touched_dirty = bit (ap (λ x. x % 2) (omega arith))

  pub touched_wired : wired (touched w) ≡ wired w
  unfolding is_on put_on
  touched_wired = bit (ap (λ x. x % 2) (omega arith))

  pub touched_page : touched w / 4096 ≡ w / 4096
  unfolding put_on
  touched_page = omega arith

  pub touched_frame : frame_of (touched w) ≡ frame_of w
  unfolding frame_of
  touched_frame = ap (λ x. x % 256) touched_page

  pub dirtied_writable : writable (dirtied w) ≡ writable w
  unfolding is_on put_on
  dirtied_writable = bit (omega arith)

  pub dirtied_dirty : dirty (dirtied w) ≡ true
  unfolding is_on put_on
  dirtied_dirty = eq-eqb _ 1 (omega arith)

  pub dirtied_wired : wired (dirtied w) ≡ wired w
  unfolding is_on put_on
  dirtied_wired = bit (ap (λ x. x % 2) (omega arith))

  pub dirtied_frame : frame_of (dirtied w) ≡ frame_of w
  unfolding frame_of put_on
  dirtied_frame = ap (λ x. x % 256) (omega arith)

  pub cleaned_present : present (cleaned w) ≡ present w
  unfolding is_on put_off
  cleaned_present = bit (omega arith)

  pub cleaned_writable : writable (cleaned w) ≡ writable w
  unfolding is_on put_off
  cleaned_writable = bit (omega arith)

  pub cleaned_dirty : dirty (cleaned w) ≡ false
  unfolding is_on put_off
  cleaned_dirty = ne_eqb _ 1 (omega arith)

  pub cleaned_wired : wired (cleaned w) ≡ wired w
  unfolding is_on put_off
  cleaned_wired = bit (ap (λ x. x % 2) (omega arith))

  pub cleaned_frame : frame_of (cleaned w) ≡ frame_of w
  unfolding frame_of put_off
  cleaned_frame = ap (λ x. x % 256) (omega arith)

  pub read_only_writable : writable (read_only w) ≡ false
  unfolding is_on put_off
  read_only_writable = ne_eqb _ 1 (omega arith)

  pub read_only_dirty : dirty (read_only w) ≡ dirty w
  unfolding is_on put_off
  read_only_dirty = bit (ap (λ x. x % 2) (omega arith))

  pub read_only_wired : wired (read_only w) ≡ wired w
  unfolding is_on put_off
  read_only_wired = bit (ap (λ x. x % 2) (omega arith))

  pub read_only_frame : frame_of (read_only w) ≡ frame_of w
  unfolding frame_of put_off
  read_only_frame = ap (λ x. x % 256) (omega arith)

  pub unwired_writable : writable (unwired w) ≡ writable w
  unfolding is_on put_off
  unwired_writable = bit (omega arith)

  pub unwired_dirty : dirty (unwired w) ≡ dirty w
  unfolding is_on put_off
  unwired_dirty = bit (omega arith)

  pub unwired_wired : wired (unwired w) ≡ false
  unfolding is_on put_off
  unwired_wired = ne_eqb _ 1 (omega arith)

  pub unwired_frame : frame_of (unwired w) ≡ frame_of w
  unfolding frame_of put_off
  unwired_frame = ap (λ x. x % 256) (omega arith)

-- a word in use stays one
module _ (w : ℕ) (m : Mapped w) where
  pub mapped_present : present w ≡ true
  unfolding is_on
  mapped_present = eq-eqb _ 1 (omega arith)

  pub mapped_frame : w / 4096 ≡ frame_of w
  unfolding frame_of
  mapped_frame = omega arith

  pub mapped_touched : Mapped (touched w)
  unfolding put_on
  mapped_touched =
      let h : w / 32 % 2 ≡ m.accessed = omega arith in
      record { frame = m.frame; writable = m.writable; accessed = 1; dirty = m.dirty; wired = m.wired; frame_low = m.frame_low; writable_low = m.writable_low; accessed_low = omega arith; dirty_low = m.dirty_low; wired_low = m.wired_low; is = omega (arith, h) }

  pub mapped_dirtied : Mapped (dirtied w)
  unfolding put_on
  mapped_dirtied =
      let h : w / 64 % 2 ≡ m.dirty = omega arith in
      record { frame = m.frame; writable = m.writable; accessed = m.accessed; dirty = 1; wired = m.wired; frame_low = m.frame_low; writable_low = m.writable_low; accessed_low = m.accessed_low; dirty_low = omega arith; wired_low = m.wired_low; is = omega (arith, h) }

  pub mapped_cleaned : Mapped (cleaned w)
  unfolding put_off
  mapped_cleaned =
      let h : w / 64 % 2 ≡ m.dirty = omega arith in
      record { frame = m.frame; writable = m.writable; accessed = m.accessed; dirty = 0; wired = m.wired; frame_low = m.frame_low; writable_low = m.writable_low; accessed_low = m.accessed_low; dirty_low = omega arith; wired_low = m.wired_low; is = omega (arith, h) }

  pub mapped_read_only : Mapped (read_only w)
  unfolding put_off
  mapped_read_only =
      let h : w / 2 % 2 ≡ m.writable = omega arith in
      record { frame = m.frame; writable = 0; accessed = m.accessed; dirty = m.dirty; wired = m.wired; frame_low = m.frame_low; writable_low = omega arith; accessed_low = m.accessed_low; dirty_low = m.dirty_low; wired_low = m.wired_low; is = omega (arith, h) }

  pub mapped_unwired : Mapped (unwired w)
  unfolding put_off
  mapped_unwired =
      let h : w / 512 % 2 ≡ m.wired = omega arith in
      record { frame = m.frame; writable = m.writable; accessed = m.accessed; dirty = m.dirty; wired = 0; frame_low = m.frame_low; writable_low = m.writable_low; accessed_low = m.accessed_low; dirty_low = m.dirty_low; wired_low = omega arith; is = omega (arith, h) }

-- the fresh word of a mapping
module _ (f q : ℕ) (on : Bool) (low : f < 256) where
  flag : (b : Bool) (n : ℕ) → cond b n 0 ≡ cond b 1 0 * n
  flag true n = omega arith
  flag false n = omega arith

  flag_low : (b : Bool) → cond b 1 0 < 2
  flag_low true = omega arith
  flag_low false = omega arith

  flag_is : (b : Bool) → eqb (cond b 1 0) 1 ≡ b
  flag_is true = refl
  flag_is false = refl

  W : ℕ
  W = cond (eqb q 3) 1 0

  D : ℕ
  D = cond on 1 0

  fresh_is : leaf_word f q on ≡ f * 4096 + D * 512 + W * 2 + 5
  unfolding leaf_word W D
  fresh_is = rw (flag (eqb q 3) 2, flag on 512) (omega arith)

  W-low : W < 2
  unfolding W
  W-low = flag_low (eqb q 3)

  D-low : D < 2
  unfolding D
  D-low = flag_low on

  pub fresh_mapped : Mapped (leaf_word f q on)
  fresh_mapped = record { frame = f; writable = W; accessed = 0; dirty = 0; wired = D; frame_low = low; writable_low = W-low; accessed_low = omega arith; dirty_low = omega arith; wired_low = D-low; is = omega (arith, fresh_is) }

  pub fresh_frame : frame_of (leaf_word f q on) ≡ f
  unfolding frame_of
  fresh_frame = omega (arith, fresh_is, W-low, D-low)

  pub fresh_dirty : dirty (leaf_word f q on) ≡ false
  unfolding is_on
  fresh_dirty = ne_eqb _ 1 (omega (arith, fresh_is, W-low, D-low))

  pub fresh_wired : wired (leaf_word f q on) ≡ on
  unfolding is_on D
  fresh_wired = bit (omega (arith, fresh_is, W-low, D-low)) ∙ flag_is on

  pub fresh_writable : writable (leaf_word f q on) ≡ eqb q 3
  unfolding is_on W
  fresh_writable = bit (omega (arith, fresh_is, W-low, D-low)) ∙ flag_is (eqb q 3)

-- zero is no word in use
pub zero_present : present 0 ≡ false
unfolding is_on
zero_present = refl

pub zero_wired : wired 0 ≡ false
unfolding is_on
zero_wired = refl

pub zero_dirty : dirty 0 ≡ false
unfolding is_on
zero_dirty = refl

pub zero_table : table_of 0 ≡ None
unfolding table_of is_on
zero_table = refl

-- a word that points down
module _ (w t : ℕ) (p : Points w t) where
  pub points_page : w / 4096 ≡ 256 + t
  points_page = omega arith

  pub points_present : present w ≡ true
  unfolding is_on
  points_present = eq-eqb _ 1 (omega arith)

  pub points_some : w ≡ 0 → ⊥
  points_some e = omega arith

  pub points_touched : Points (touched w) t
  unfolding put_on
  points_touched = record { is = omega arith }

  pub points_table : t < 16 → table_of w ≡ Some t
  unfolding table_of
  points_table h =
      cond-true _ (Some (w / 4096 - 256)) None (and_from _ _ points_present (and_from _ _ (le-leb 256 (w / 4096) (omega (arith, points_page))) (lt-ltb (w / 4096) 272 (omega (arith, points_page)))))
      ∙ ap Some (omega (arith, points_page))

  pub points_at : (u : ℕ) → points_to w u ≡ eqb (256 + t) (256 + u)
  unfolding points_to
  points_at u = rw (points_present, points_page)

pub points_same : (w t u : ℕ) → Points w t → Points w u → t ≡ u
points_same w t u p q = omega (arith, points_page w t p, points_page w u q)

pub pointer_points : (t : ℕ) → Points (pointer t) t
unfolding pointer
pointer_points t = record { is = omega arith }

pub zero_points_to : (t : ℕ) → points_to 0 t ≡ false
unfolding points_to is_on
zero_points_to t = refl

-- An enter at the shifted page below is the enter at the page above. Assumes nothing.
use Rattle.std.proofs.Common.{◌≡◌, ℕ, ◌+◌, ◌-◌, ◌%◌, ◌<◌, ◌≤◌, Bool, ◌&&◌, ltb, Ok, Err, Result, sym, ap, ◌∙◌, ⊎_elim, arith}
use Rattle.std.proofs.lemmas.Bool.{lt-ltb, le-ltb, cond-true, cond-false, cases_lt}
use Rattle.std.proofs.lemmas.Bool.Decides.{nat_tests}
use Rattle.refusal.specs.declared.pmap.PmapRefusal.{PmapRefusal}
use Rattle.refusal.specs.declared.pmap.PmapRefusal.TheVariants.{Range, WiredFull}
use Rattle.pmap.specs.Meaning.{View, is_wired, Crowded, Same, Enters}
use Rattle.pmap.specs.Ranges.{fits_frame, fits_protection, fits_entry}
use Rattle.layers.specs.Shift.{shift, shifted}

shift_in : (k v : ℕ) → v < 262144 → shift k v ≡ (v + k) % 262144
shift_in k v h = cond-true (ltb v 262144) ((v + k) % 262144) v (lt-ltb v 262144 h)

shift_out : (k v : ℕ) → 262144 ≤ v → shift k v ≡ v
shift_out k v h = cond-false (ltb v 262144) ((v + k) % 262144) v (le-ltb v 262144 h)

-- the shift by what is left to 262,144 is the way back
shift_back : (k v : ℕ) → k < 262144 → shift k (shift (262144 - k) v) ≡ v
shift_back k v small =
    ⊎_elim
    (λ h. ap (shift k) (shift_in (262144 - k) v h) ∙ shift_in k ((v + (262144 - k)) % 262144) (omega arith) ∙ omega arith)
    (λ h. ap (shift k) (shift_out (262144 - k) v h) ∙ shift_out k v h)
    (cases_lt v 262144)

shift_apart : (k v w : ℕ) → shift k v ≡ shift k w → v ≡ w
shift_apart k v w e = grind (arith, nat_tests)

crowded_below : (below : View) (k s p : ℕ) → Crowded (shifted k below).held s p → Crowded below.held s (shift k p)
crowded_below below k s p c =
    record {
      space = c.space;
      page = λ i. shift k (c.page i);
      apart = λ i j hi hj es ep. c.apart i j hi hj es (shift_apart k (c.page i) (c.page j) ep);
      elsewhere = λ i h es ep. c.elsewhere i h es (shift_apart k (c.page i) p ep);
      wired = c.wired;
    }

crowded_above : (below : View) (k s p : ℕ) → k < 262144 → Crowded below.held s (shift k p) → Crowded (shifted k below).held s p
crowded_above below k s p small c =
    let back : (v : ℕ) → shift k (shift (262144 - k) v) ≡ v = λ v. shift_back k v small in
    record {
      space = c.space;
      page = λ i. shift (262144 - k) (c.page i);
      apart = λ i j hi hj es ep. c.apart i j hi hj es (sym (back (c.page i)) ∙ ap (shift k) ep ∙ back (c.page j));
      elsewhere = λ i h es ep. c.elsewhere i h es (sym (back (c.page i)) ∙ ap (shift k) ep);
      wired = λ i h. ap (λ v. is_wired (below.held (c.space i) v)) (back (c.page i)) ∙ c.wired i h;
    }

same_shifted : (v w : View) (k : ℕ) → Same v w → Same (shifted k v) (shifted k w)
same_shifted v w k same = record { held = λ a b. same.held a (shift k b); marks = same.marks }

fits_shifted : (k s p f q : ℕ) → fits_entry s (shift k p) f q ≡ fits_entry s p f q
fits_shifted k s p f q =
    let page : ltb (shift k p) 262144 ≡ ltb p 262144 = grind (arith, nat_tests) in
    ap (λ t. (ltb s 4 && t) && (fits_frame f && fits_protection q)) page

pub enters_shifted : {U : Type 0} (v w : View) (k s p f q : ℕ) (wired : Bool) (r : Result U PmapRefusal) → k < 262144 → Enters v w s (shift k p) f q wired r → Enters (shifted k v) (shifted k w) s p f q wired r
enters_shifted v w k s p f q wired (Ok x) small h = (
  record { fits = sym (fits_shifted k s p f q) ∙ h.0.fits; room = λ wire c. h.0.room wire (crowded_below v k s p c) },
  record {
    here = h.1.here;
    others = λ a b n. h.1.others a (shift k b) (λ ea eb. n ea (shift_apart k b p eb));
    marked = h.1.marked;
  },
)
enters_shifted v w k s p f q wired (Err Range) small h = (sym (fits_shifted k s p f q) ∙ h.0, same_shifted v w k h.1)
enters_shifted v w k s p f q wired (Err WiredFull) small h =
    ((sym (fits_shifted k s p f q) ∙ h.0.0, h.0.1, crowded_above v k s p small h.0.2), same_shifted v w k h.1)

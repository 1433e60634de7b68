-- No pmap loses what is due. Assumes nothing.
use Rattle.std.proofs.Common.{◌≡◌, ℕ, Bool, true, false, ◌&&◌, eqb, Some, None, Option, ap, ◌∙◌, inl, inr}
use Rattle.std.proofs.lemmas.Bool.{both_ways, or_left}
use Rattle.pmap.specs.declared.access.Access.{Access}
use Rattle.pmap.specs.declared.access.Access.TheVariants.{Hit, Miss}
use Rattle.pmap.specs.Meaning.{View, Mapping, is_wired, Stays, Same, PutForgetting, Unwired, Accessed, marked}
use Rattle.minimal.specs.Law.{Due, NothingDueIsLost}

stays_wired : (x y : Option Mapping) → Stays x y → is_wired x ≡ true → y ≡ x
stays_wired x y (inl e) h = e
stays_wired x y (inr e) h = absurd (both_ways (is_wired x) e.1 h)

forgetting_due : (v w : View) (s p : ℕ) (m : Option Mapping) (marks : ℕ → Bool) → PutForgetting v w s p m marks → ((f : ℕ) → v.modified f ≡ true → marks f ≡ true) → Due v w s p
forgetting_due v w s p m marks put more =
    record {
      wired = λ a b other. stays_wired (v.held a b) (w.held a b) (put.others a b other);
      marks = λ f h. ap (λ set. set f) put.marked ∙ more f h;
    }

same_due : (v w : View) (s p : ℕ) → Same v w → Due v w s p
same_due v w s p same = record { wired = λ a b other h. same.held a b; marks = λ f h. ap (λ set. set f) same.marks ∙ h }

unwired_due : (v w : View) (s p : ℕ) (o : Option Mapping) → Unwired v w s p o → Due v w s p
unwired_due v w s p None h = same_due v w s p h
unwired_due v w s p (Some m) h = forgetting_due v w s p (Some (m.0, m.1, false)) v.modified h (λ f e. e)

accessed_due : (v w : View) (s p : ℕ) (write : Bool) (a : Access) → Accessed v w s p write a → Due v w s p × (w.held s p ≡ v.held s p)
accessed_due v w s p write (Hit f) h =
    (forgetting_due v w s p (v.held s p) (marked v.modified write f) h (λ g e. or_left (v.modified g) (write && eqb g f) e), h.here)
accessed_due v w s p write Miss h = (same_due v w s p h, h.held s p)

pub nothing_due_is_lost : NothingDueIsLost
nothing_due_is_lost v w s p = (
  λ f q wired h. (forgetting_due v w s p (Some (f, q, wired)) v.modified h.1 (λ g e. e), h.1.here),
  λ h. unwired_due v w s p (v.held s p) h.1,
  λ write a h. accessed_due v w s p write a h.1.1,
)

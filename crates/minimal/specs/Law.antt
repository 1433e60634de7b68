-- What no pmap may lose while it enters, unwires or serves an access. Assumes nothing.
use Rattle.std.specs.Prelude.{◌≡◌, ℕ, Bool, true, Some, Ok}
use Rattle.pmap.specs.declared.access.Access.{Access}
use Rattle.pmap.specs.Meaning.{View, is_wired, Elsewhere, Enters, Unwires, Accesses}

-- the wired mappings of other places and the modified frames are still there
pub record Due (v w : View) (s p : ℕ) : Type 0 where
  pub wired : (a b : ℕ) → Elsewhere s p a b → is_wired (v.held a b) ≡ true → w.held a b ≡ v.held a b
  pub marks : (f : ℕ) → v.modified f ≡ true → w.modified f ≡ true

-- an enter also leaves its own entry, and an access the mapping of its place
abbrev pub NothingDueIsLost : Type 0
NothingDueIsLost =
    (v w : View) (s p : ℕ)
    → ((f q : ℕ) (wired : Bool) → Enters {U = Unit {0}} v w s p f q wired (Ok tt) → Due v w s p × (w.held s p ≡ Some (f, q, wired)))
    × (Unwires {U = Unit {0}} v w s p (Ok tt) → Due v w s p)
    × ((write : Bool) (a : Access) → Accesses v w s p write (Ok a) → Due v w s p × (w.held s p ≡ v.held s p))

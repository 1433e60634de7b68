-- What two pmaps hold together, and how they are alike. Assumes nothing.
use Rattle.std.specs.Prelude.{◌≡◌, ℕ, Bool, true, false, cond, not, ◌&&◌, ◌||◌, Some, None, Option, ◌==◌}
use Rattle.std.specs.Coded.{Unit-prop}
use Rattle.std.proofs.Props.{props}
use Rattle.pmap.specs.Meaning.{View, Mapping}

abbrev pub same_mark : Bool → Bool → Bool
same_mark true b = b
same_mark false b = not b

abbrev pub alike : Mapping → Mapping → Bool
alike m n = m.0 == n.0 && (m.1 == n.1 && same_mark m.2 n.2)

-- the mapping that both hold
abbrev pub agreed : Option Mapping → Option Mapping → Option Mapping
agreed None y = None
agreed (Some m) None = None
agreed (Some m) (Some n) = cond (alike m n) (Some m) None

-- a place is held if both hold the same mapping there; a frame is modified if either says so
abbrev pub replica : View → View → View
replica v w =
    record { held = λ a b. agreed (v.held a b) (w.held a b); modified = λ f. v.modified f || w.modified f }

-- at one place: what both hold is the same mapping, and what only one holds is not wired
abbrev pub Twin : Option Mapping → Option Mapping → Type 0
Twin None None = Unit {0}
Twin None (Some n) = n.2 ≡ false
Twin (Some m) None = m.2 ≡ false
Twin (Some m) (Some n) = m ≡ n

-- that two mappings are alike can be shown in one way
pub Twin-prop : (x y : Option Mapping) → IsProp (Twin x y)
Twin-prop None None = Unit-prop
Twin-prop None (Some n) = Prim.hlevel props
Twin-prop (Some m) None = Prim.hlevel props
Twin-prop (Some m) (Some n) = Prim.hlevel props

abbrev pub Twins : View → View → Type 0
Twins v w = (a b : ℕ) → Twin (v.held a b) (w.held a b)

pub Twins-prop : (v w : View) → IsProp (Twins v w)
Twins-prop v w = Prim.hlevel Twin-prop

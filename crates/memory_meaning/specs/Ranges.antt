-- What a run of pmap calls over the pages of a range does. Assumes nothing.
use Rattle.std.specs.Prelude.{◌≡◌, ℕ, ◌+◌, Bool, cond, ◌&&◌, None, Option, Result, ◌==◌, nat_le, nat_lt}
use Rattle.refusal.specs.declared.pmap.PmapRefusal.{PmapRefusal}
use Rattle.pmap.specs.Meaning.{Mapping, View, AtPlace, Put}

-- (a, b) is one of count pages of the space from the first on
unfoldable pub within : ℕ → ℕ → ℕ → ℕ → ℕ → Bool
within space first count a b = space == a && (nat_le first b && nat_lt b (first + count))

-- the pages of a range are changed alike, and nothing else is
pub record Over (change : Option Mapping → Option Mapping) (v w : View) (space first count : ℕ) : Type 0 where
  pub held : (a b : ℕ) → w.held a b ≡ cond (within space first count a b) (change (v.held a b)) (v.held a b)
  pub marks : w.modified ≡ v.modified

-- a call of a pmap changes the mapping of a place
abbrev pub ChangesPlace : {U : Type 0} → (Option Mapping → Option Mapping) → View → View → ℕ → ℕ → Result U PmapRefusal → Type 0
ChangesPlace change v w space page r = AtPlace v w space page r (λ _. Put v w space page (change (v.held space page)))

-- and so does each call of a function at a page of the space
abbrev pub EachChanges : {Y U : Type 0} → (Y → ℕ → ℕ → Result U PmapRefusal → Y → Type 0) → (Y → Type 0) → (Y → View) → (Option Mapping → Option Mapping) → ℕ → Type 0
EachChanges {Y} {U} returns kept view change space =
    (y z : Y) (page : ℕ) (r : Result U PmapRefusal) → kept y → returns y space page r z → ChangesPlace change (view y) (view z) space page r

abbrev pub nothing : Option Mapping → Option Mapping
nothing m = None

-- The flags that a layer keeps beside a pmap, one for each frame. Assumes nothing.
use Rattle.std.specs.Prelude.{◌≡◌, ℕ, ◌<◌, Bool, true, false, List, Ok, Err, Result, slice_index_or, slice_set}
use Rattle.refusal.specs.declared.pmap.PmapRefusal.{PmapRefusal}
use Rattle.pmap.specs.declared.access.Access.{Access}
use Rattle.pmap.specs.declared.access.Access.TheVariants.{Hit, Miss}

-- flag f says whether frame f is modified
abbrev pub Tell : List Bool → (ℕ → Bool) → Type 0
Tell flags set = (f : ℕ) → f < 256 → slice_index_or flags f false ≡ set f

-- the flags after an access: a write that hits puts the flag of its frame on
abbrev pub written : List Bool → Bool → Result Access PmapRefusal → List Bool
written flags true (Ok (Hit f)) = slice_set flags f true
written flags true (Ok Miss) = flags
written flags true (Err e) = flags
written flags false r = flags

-- the flags after a frame has left the modified ones; a refusal leaves them as they are
abbrev pub cleaned : {U : Type 0} → List Bool → ℕ → Result U PmapRefusal → List Bool
cleaned flags f (Ok u) = slice_set flags f false
cleaned flags f (Err e) = flags

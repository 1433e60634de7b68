-- What the hardware reads of the table words alone, and that it agrees with what the pmap holds. Assumes nothing.
-- The lookup goes by VSID, API and H: the primary group for a first word with H off, then the secondary for one with H on.
use Rattle.std.specs.Prelude.{◌≡◌, ℕ, ◌+◌, ◌*◌, true, List, Some, None, Option, slice_index}
use Rattle.pmap.specs.Meaning.{Mapping, View}
use Rattle.pmap.specs.Ranges.{fits_place}
use Rattle.powerpc_words.specs.Fields.{frame_of, protection_of}
use Rattle.powerpc_words.specs.Search.{lookup}

-- the frame and the protection in the second word of a slot
abbrev pub entry_of : List ℕ → Option ℕ → Option (ℕ × ℕ)
entry_of words None = None
entry_of words (Some k) = Some (frame_of (slice_index words (2 * k + 1)), protection_of (slice_index words (2 * k + 1)))

unfoldable pub translated : List ℕ → ℕ → ℕ → Option (ℕ × ℕ)
translated words space page = entry_of words (lookup words space page)

-- the frame and the right of a mapping
abbrev pub right_of : Option Mapping → Option (ℕ × ℕ)
right_of None = None
right_of (Some m) = Some (m.0, m.1)

-- at every place the lookup finds a mapping, with its frame and right, precisely where the view holds one
abbrev pub Translates : List ℕ → View → Type 0
Translates words v = (space page : ℕ) → fits_place space page ≡ true → translated words space page ≡ right_of (v.held space page)

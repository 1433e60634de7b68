-- The slots of the minimal pmap, and what they hold. Assumes nothing.
use Rattle.std.specs.Prelude.{◌≡◌, ℕ, ◌<◌, Bool, true, false, cond, not, ◌&&◌, ◌||◌, List, [], ◌∷◌, length, Some, None, Option, ◌==◌, nat_lt, slice_index_or}
use Rattle.pmap.specs.Ranges.{fits_place, fits_frame}
use Rattle.pmap.specs.Meaning.{Mapping, View, is_wired, Elsewhere}
use Rattle.minimal.specs.declared.entry.Entry.{Entry}
use Rattle.minimal.specs.declared.entry.Held.{Held}
use Rattle.minimal.specs.declared.entry.Change.{Change}
use Rattle.minimal.specs.declared.entry.Change.TheVariants.{Vacate, Remove, Lower, Drop}

abbrev pub is_at : Option Entry → ℕ → ℕ → Bool
is_at None s p = false
is_at (Some e) s p = e.space == s && e.page == p

abbrev pub mapping_of : Option Entry → Option Mapping
mapping_of None = None
mapping_of (Some e) = Some (e.frame, e.protection, e.wired)

-- what becomes of an entry: where a place's mapping goes, and so does every unwired one
abbrev pub vacated : ℕ → ℕ → Entry → Option Entry
vacated s p e = cond (is_at (Some e) s p || not e.wired) None (Some e)

-- where a place's mapping goes
abbrev pub removed : ℕ → ℕ → Entry → Option Entry
removed s p e = cond (is_at (Some e) s p) None (Some e)

-- where a place's mapping is lowered to protection 1
abbrev pub lowered : ℕ → ℕ → Entry → Option Entry
lowered s p e =
    cond (is_at (Some e) s p) (Some (record { space = e.space; page = e.page; frame = e.frame; protection = 1; wired = e.wired })) (Some e)

-- where a frame's mappings go
abbrev pub dropped : ℕ → Entry → Option Entry
dropped f e = cond (e.frame == f) None (Some e)

-- a slot after its entry has changed
abbrev pub after : (Entry → Option Entry) → Option Entry → Option Entry
after change None = None
after change (Some e) = change e

-- what becomes of an entry by a change
abbrev pub becomes : Change → Entry → Option Entry
becomes (Vacate s p) = vacated s p
becomes (Remove s p) = removed s p
becomes (Lower s p) = lowered s p
becomes (Drop f) = dropped f

-- a slot after a change
abbrev pub changed : Change → Option Entry → Option Entry
changed c = after (becomes c)

-- the slot that holds a place, as the first that does, or none
unfoldable pub found : List (Option Entry) → ℕ → ℕ → Option Entry
found [] s p = None
found (x ∷ xs) s p = cond (is_at x s p) x (found xs s p)

-- a slot into which a wired mapping of the place can go
abbrev pub is_room : Option Entry → ℕ → ℕ → Bool
is_room None s p = true
is_room (Some e) s p = is_at (Some e) s p

abbrev pub held_in : List (Option Entry) → ℕ → ℕ → Option Mapping
held_in slots s p = mapping_of (found slots s p)

-- what the pmap holds: at a place the mapping of its slot; modified is a frame whose mark is on
abbrev pub shown : List (Option Entry) → List Bool → View
shown slots marks = record { held = held_in slots; modified = λ f. slice_index_or marks f false }

-- an entry in range, in plain numbers
abbrev pub entry_of : Held → Entry
entry_of h = record { space = h.place.space; page = h.place.page; frame = h.frame.number; protection = h.protection; wired = h.wired }

-- whether what a slot holds has a frame in range, and a place in range
abbrev pub frame_fits : Option Entry → Bool
frame_fits None = true
frame_fits (Some e) = fits_frame e.frame

abbrev pub place_fits : Option Entry → Bool
place_fits None = true
place_fits (Some e) = fits_place e.space e.page

-- the first eight slots are for wired mappings, the ninth is for the latest entry if that is unwired
abbrev pub is_wired_slot : ℕ → Option Entry → Bool
is_wired_slot k None = nat_lt k 8
is_wired_slot k (Some e) = e.wired

abbrev pub Fits : ℕ → Option Entry → Type 0
Fits k x = (is_wired_slot k x ≡ nat_lt k 8) × (frame_fits x ≡ true)

-- no place stands in two slots
abbrev pub Alone : List (Option Entry) → Type 0
Alone slots = (i j s p : ℕ) → is_at (slice_index_or slots i None) s p ≡ true → is_at (slice_index_or slots j None) s p ≡ true → i ≡ j

pub record Sound (slots : List (Option Entry)) : Type 0 where
  pub long : length slots ≡ 9
  pub alone : Alone slots
  pub fits : (k : ℕ) → Fits k (slice_index_or slots k None)

-- the places that stand in slots are in range
abbrev pub Placed : List (Option Entry) → Type 0
Placed slots = (k : ℕ) → place_fits (slice_index_or slots k None) ≡ true

-- an entry can go into a slot: the slot is the entry's own kind, and is empty once the place and the unwired mappings are forgotten
pub record Room (slots : List (Option Entry)) (at : ℕ) (e : Entry) : Type 0 where
  pub within : at < 9
  pub fits : Fits at (Some e)
  pub free : after (vacated e.space e.page) (slice_index_or slots at None) ≡ None

-- only wired mappings are held but at a place
abbrev pub OnlyWired : View → ℕ → ℕ → Type 0
OnlyWired v s p = (a b : ℕ) → Elsewhere s p a b → is_wired (v.held a b) ≡ false → v.held a b ≡ None

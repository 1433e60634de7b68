-- What a change leaves of the slots. Assumes nothing.
use Rattle.std.proofs.Common.{◌≡◌, ℕ, true, ◌⊎◌, List, map, get_or, None, Option}
use Rattle.std.proofs.Math.ListN.{get_or-map}
use Rattle.minimal.specs.declared.entry.Entry.{Entry}
use Rattle.minimal.specs.declared.entry.Change.{Change}
use Rattle.minimal.specs.declared.entry.Change.TheVariants.{Vacate, Remove, Lower, Drop}
use Rattle.minimal.specs.Entries.{is_at, becomes, changed, found, Fits, Alone, Sound}
use Rattle.minimal.proofs.Holding.{Tame, tame_vacated, tame_removed, tame_lowered, tame_dropped, keeps, was_at, still_fits, found_after, after_sound}

pub tame : (c : Change) → Tame (becomes c)
tame (Vacate s p) = tame_vacated s p
tame (Remove s p) = tame_removed s p
tame (Lower s p) = tame_lowered s p
tame (Drop f) = tame_dropped f

-- a change empties a slot, or leaves its place as it is
pub changed_keeps : (c : Change) (x : Option Entry) → (changed c x ≡ None) ⊎ ((a b : ℕ) → is_at (changed c x) a b ≡ is_at x a b)
changed_keeps c = keeps (becomes c) (tame c)

pub changed_at : (c : Change) (x : Option Entry) (a b : ℕ) → is_at (changed c x) a b ≡ true → is_at x a b ≡ true
changed_at c = was_at (becomes c) (tame c)

pub changed_fits : (c : Change) (k : ℕ) (x : Option Entry) → Fits k x → Fits k (changed c x)
changed_fits c = still_fits (becomes c) (tame c)

pub get_d_changed : (c : Change) (xs : List (Option Entry)) (k : ℕ) → get_or (map (changed c) xs) k None ≡ changed c (get_or xs k None)
get_d_changed c xs k = get_or-map (changed c) xs k None

-- after a change of every slot
pub found_changed : (c : Change) (xs : List (Option Entry)) (s p : ℕ) → Alone xs → found (map (changed c) xs) s p ≡ changed c (found xs s p)
found_changed c = found_after (becomes c) (tame c)

pub changed_sound : (c : Change) (xs : List (Option Entry)) → Sound xs → Sound (map (changed c) xs)
changed_sound c = after_sound (becomes c) (tame c)

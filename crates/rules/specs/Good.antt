-- What the state of a memory keeps from new on. Assumes nothing.
use Rattle.std.specs.Prelude.{◌≡◌, ℕ, ◌<◌, ◌≤◌, Bool, true, false, List, length, Some, nat_eq, slice_index}
use Rattle.std.specs.List.{AllByRecursion}
use Rattle.rules.specs.declared.region.Region.{Region}
use Rattle.rules.specs.Lists.{any}
use Rattle.rules.specs.State.{State, lie}
use Rattle.rules.specs.Refusals.{fits_map}
use Rattle.rules.specs.Paging.{owner}

-- a frame is in use
abbrev pub in_use : State → ℕ → Bool
in_use s f = any (nat_eq f) s.queue

-- no number stands twice
abbrev pub Apart : List ℕ → Type 0
Apart xs = (i j : ℕ) → i < length xs → j < length xs → slice_index xs i ≡ slice_index xs j → i ≡ j

abbrev pub RegionFits : Region → Type 0
RegionFits r = fits_map r.space r.first r.count r.object r.offset r.protection ≡ true

pub record Good (s : State) : Type 0 where
  pub frames_few : s.frames ≤ 256
  pub lies_long : length s.lies ≡ 2048
  pub owners_long : length s.owners ≡ 256
  pub words_long : length s.words ≡ 256
  pub store_long : length s.store ≡ 2048
  pub regions_few : length s.regions ≤ 64
  pub regions_fit : AllByRecursion RegionFits s.regions
  -- the frames in use are those below their number, each once
  pub queue_few : length s.queue ≤ s.frames
  pub queue_low : (f : ℕ) → in_use s f ≡ true → f < length s.queue
  pub queue_apart : Apart s.queue
  -- a resident page lies in a frame in use that it owns, and such a frame holds just that page
  pub lies_used : (x f : ℕ) → lie s x ≡ Some f → in_use s f ≡ true
  pub lies_owned : (x f : ℕ) → lie s x ≡ Some f → owner s f ≡ x
  pub owner_lies : (f : ℕ) → in_use s f ≡ true → lie s (owner s f) ≡ Some f
  -- only frames in use are modified, and a frame that is not modified has the word of the backing store
  pub dirty_used : (f : ℕ) → s.dirty f ≡ true → in_use s f ≡ true
  pub clean : (x f : ℕ) → lie s x ≡ Some f → s.dirty f ≡ false → slice_index s.words f ≡ slice_index s.store x
  pub wired_few : length s.wired ≤ 8
  pub wired_used : AllByRecursion (λ w. in_use s w.frame ≡ true) s.wired

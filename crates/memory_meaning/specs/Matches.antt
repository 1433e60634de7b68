-- How what the pmap holds fits the memory's regions, resident pages and wired places. Assumes nothing.
use Rattle.std.specs.Prelude.{◌≡◌, ℕ, true, false, List, [], ◌∷◌, Some, None, Option, slice_index_or}
use Rattle.std.specs.List.{AllByRecursion}
use Rattle.pmap.specs.Meaning.{Mapping, is_wired}
use Rattle.rules.specs.declared.region.Region.{Region}
use Rattle.rules.specs.declared.region.WiredPlace.{WiredPlace}
use Rattle.rules.specs.Lists.{any}
use Rattle.rules.specs.State.{page_in}
use Rattle.rules.specs.Refusals.{cover, is_place}

-- a mapping at (a, b) is of the frame that the place's object page lies in, and allows no more than the region
pub record Covered (rs : List Region) (ls : List (Option ℕ)) (a b : ℕ) (m : Mapping) : Type 0 where
  pub region : Region
  pub covers : cover rs a b ≡ Some region
  pub lies : slice_index_or ls (page_in region b) None ≡ Some m.0
  pub right : m.1 ≡ 3 → region.protection ≡ 3

-- a wired place is held as the wire entered it
pub record HeldWired (held : ℕ → ℕ → Option Mapping) (rs : List Region) (w : WiredPlace) : Type 0 where
  pub region : Region
  pub covers : cover rs w.space w.page ≡ Some region
  pub holds : held w.space w.page ≡ Some (w.frame, region.protection, true)

-- no place stands twice
unfoldable pub PlacesApart : List WiredPlace → Type 0
PlacesApart [] = Unit {0}
PlacesApart (w ∷ ws) = (any (is_place w.space w.page) ws ≡ false) × PlacesApart ws

pub record Matches (held : ℕ → ℕ → Option Mapping) (rs : List Region) (ls : List (Option ℕ)) (ws : List WiredPlace) : Type 0 where
  pub covered : (a b : ℕ) (m : Mapping) → held a b ≡ Some m → Covered rs ls a b m
  pub wired : AllByRecursion (HeldWired held rs) ws
  pub listed : (a b : ℕ) → is_wired (held a b) ≡ true → any (is_place a b) ws ≡ true
  pub apart : PlacesApart ws

-- A translation table as its numbered slots, each with one mapping or none, and a modified mark per frame.
-- What such a table means as a pmap. Assumes nothing; a board says which slots its words spell.
use Rattle.std.specs.Prelude.{◌≡◌, ℕ, Bool, true, false, not, ◌&&◌, ◌⊎◌, Some, None, Option, ◌==◌}
use Rattle.pmap.specs.Meaning.{Mapping, View}

-- what a slot in use holds: a place, its mapping, and the table's own modified bit
pub record Entry : Type 0 where
  pub space : ℕ
  pub page : ℕ
  pub frame : ℕ
  pub protection : ℕ
  pub wired : Bool
  pub dirty : Bool

pub record Table : Type 0 where
  pub slot : ℕ → Option Entry
  pub mark : ℕ → Bool

abbrev pub mapping_of : Entry → Mapping
mapping_of e = (e.frame, e.protection, e.wired)

-- no place stands in two slots
abbrev pub Single : Table → Type 0
Single t = (j k : ℕ) (d e : Entry) → t.slot j ≡ Some d → t.slot k ≡ Some e → d.space ≡ e.space → d.page ≡ e.page → j ≡ k

-- some slot holds the place
pub record Held (t : Table) (a b : ℕ) : Type 0 where
  pub at : ℕ
  pub entry : Entry
  pub found : t.slot at ≡ Some entry
  pub space : entry.space ≡ a
  pub page : entry.page ≡ b

-- some slot has the frame with its modified bit on
pub record Bit (t : Table) (f : ℕ) : Type 0 where
  pub at : ℕ
  pub entry : Entry
  pub found : t.slot at ≡ Some entry
  pub frame : entry.frame ≡ f
  pub on : entry.dirty ≡ true

-- the view says what the table's slots and marks say: it holds what a slot holds and nothing else,
-- and a frame is modified if its mark is on or a slot has it with its modified bit on
pub record Shows (t : Table) (v : View) : Type 0 where
  pub holds : (k : ℕ) (e : Entry) → t.slot k ≡ Some e → v.held e.space e.page ≡ Some (mapping_of e)
  pub only : (a b : ℕ) (m : Mapping) → v.held a b ≡ Some m → Held t a b
  pub marks : (f : ℕ) → t.mark f ≡ true → v.modified f ≡ true
  pub bits : (f : ℕ) → Bit t f → v.modified f ≡ true
  pub told : (f : ℕ) → v.modified f ≡ true → (t.mark f ≡ true) ⊎ Bit t f

-- a slot with a wired mapping of another place than (s, p)
abbrev pub wired_elsewhere : ℕ → ℕ → Option Entry → Bool
wired_elsewhere s p None = false
wired_elsewhere s p (Some e) = e.wired && not (e.space == s && e.page == p)

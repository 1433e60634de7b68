-- What the calls of a board do to its slots and marks. Assumes nothing.
use Rattle.std.specs.Prelude.{◌≡◌, ℕ, Bool, true, false, cond, ◌⊎◌, Some, None, Option, ◌==◌, ◌≢◌}
use Rattle.slots.specs.Slots.{Entry, Table}

-- some slot that goes has the frame with its modified bit on
pub record GoneBit (t : Table) (gone : ℕ → Bool) (f : ℕ) : Type 0 where
  pub at : ℕ
  pub entry : Entry
  pub found : t.slot at ≡ Some entry
  pub goes : gone at ≡ true
  pub frame : entry.frame ≡ f
  pub on : entry.dirty ≡ true

-- the slots of a set are emptied, their modified bits first merged into the marks
pub record Emptied (t u : Table) (gone : ℕ → Bool) : Type 0 where
  pub slots : (k : ℕ) → u.slot k ≡ cond (gone k) None (t.slot k)
  pub kept : (f : ℕ) → t.mark f ≡ true → u.mark f ≡ true
  pub merged : (f : ℕ) → GoneBit t gone f → u.mark f ≡ true
  pub only : (f : ℕ) → u.mark f ≡ true → (t.mark f ≡ true) ⊎ GoneBit t gone f

-- an empty slot comes to hold an entry with its modified bit off
pub record Filled (t u : Table) (k : ℕ) (e : Entry) : Type 0 where
  pub empty : t.slot k ≡ None
  pub slots : (j : ℕ) → u.slot j ≡ cond (j == k) (Some e) (t.slot j)
  pub clean : e.dirty ≡ false
  pub marks : (f : ℕ) → u.mark f ≡ t.mark f

-- the entry of a slot changes its protection, wired mark or modified bit, which does not go off
pub record Rewritten (t u : Table) (k : ℕ) (d e : Entry) : Type 0 where
  pub was : t.slot k ≡ Some d
  pub slots : (j : ℕ) → u.slot j ≡ cond (j == k) (Some e) (t.slot j)
  pub space : e.space ≡ d.space
  pub page : e.page ≡ d.page
  pub frame : e.frame ≡ d.frame
  pub stays : d.dirty ≡ true → e.dirty ≡ true
  pub marks : (f : ℕ) → u.mark f ≡ t.mark f

-- an entry with its modified bit off
abbrev pub clean_entry : Entry → Entry
clean_entry e = record { space = e.space; page = e.page; frame = e.frame; protection = e.protection; wired = e.wired; dirty = false }

abbrev pub cleaned : ℕ → Option Entry → Option Entry
cleaned f None = None
cleaned f (Some e) = Some (cond (e.frame == f) (clean_entry e) e)

-- the mark of a frame and the modified bits of its slots go off
pub record Cleaned (t u : Table) (f : ℕ) : Type 0 where
  pub slots : (k : ℕ) → u.slot k ≡ cleaned f (t.slot k)
  pub off : u.mark f ≡ false
  pub others : (g : ℕ) → (g ≢ f) → u.mark g ≡ t.mark g

-- the slots and marks of the tables are the same
pub record Unchanged (t u : Table) : Type 0 where
  pub slots : (k : ℕ) → u.slot k ≡ t.slot k
  pub marks : (f : ℕ) → u.mark f ≡ t.mark f

-- The minimal pmap as a pmap. Assumes nothing.
use Rattle.std.specs.Prelude.{◌≡◌, ℕ, Some, None, Option}
use Rattle.pmap.specs.Meaning.{View}
use Rattle.minimal.specs.declared.entry.Entry.{Entry}
use Rattle.minimal.specs.declared.table.Minimal.{Minimal}
use Rattle.minimal.specs.Entries.{shown, OnlyWired}

abbrev pub seen : Minimal → View
seen t = shown t.slots.list t.marks

-- unwire forgets all unwired mappings elsewhere, and nothing where no slot holds the place
abbrev pub UnwireForgets : Minimal → Minimal → ℕ → ℕ → Option Entry → Type 0
UnwireForgets t u s p None = u ≡ t
UnwireForgets t u s p (Some e) = OnlyWired (seen u) s p

-- What is left of a file from a position on: an entry for each twelve bytes. Assumes nothing of the bytes.
use Rattle.std.specs.Prelude.{ℕ, zero, suc, ◌+◌, ◌-◌, ◌/◌, List, [], ◌∷◌, length}
use Rattle.trace.specs.declared.reader.Reader.{Reader}
use Rattle.trace.specs.declared.record.Entry.{Entry}
use Rattle.trace.specs.Format.{entry_at}

abbrev pub entries_from : List ℕ → ℕ → ℕ → List Entry
entries_from bytes at zero = []
entries_from bytes at (suc n) = entry_at bytes at ∷ entries_from bytes (at + 12) n

abbrev pub entries_left : Reader → List Entry
entries_left r = entries_from r.bytes.now r.at ((length r.bytes.now - r.at) / 12)

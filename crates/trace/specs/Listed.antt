-- The law over a whole file: what is handed out is, place by place, what stands in the file, nothing skipped or repeated.
-- Assumes nothing of the bytes.
use Rattle.std.specs.Prelude.{◌≡◌, ℕ, ◌+◌, ◌*◌, ◌<◌, List, length, Ok, slice_index_or}
use Rattle.trace.specs.declared.record.Entry.{Entry}
use Rattle.trace.specs.Format.{checked, record_count, entries_of, entry_at, content_at, Own}

pub record Listed (bytes : List ℕ) (frames : ℕ) (entries : List Entry) : Type 0 where
  -- the file is not turned away, and has this frame count
  pub passed : checked bytes ≡ Ok frames
  -- as many entries as there are records
  pub count : length entries ≡ record_count bytes
  -- the entry of each place is what the twelve bytes there spell, with the place's number
  pub places : (k : ℕ) (d : Entry) → k < record_count bytes → slice_index_or entries k d ≡ entry_at bytes (2 + 12 * k)
  -- as one list
  pub whole : entries ≡ entries_of bytes
  -- the record of a place, if it has one, is encoded to the twelve bytes there
  pub own : (k : ℕ) → k < record_count bytes → Own (content_at bytes (2 + 12 * k)) bytes (2 + 12 * k)

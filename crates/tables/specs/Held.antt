-- The state that tables hold, and the parts of the rules' changes that tables make. Assumes nothing.
--
-- The modified frames and the counts are kept elsewhere: they are given.
use Rattle.std.specs.Prelude.{ℕ, Bool, None, vec_items, slice_index, slice_set}
use Rattle.std.specs.List.{remove}
use Rattle.rules.specs.declared.counts.Counts.{Counts}
use Rattle.rules.specs.State.{State}
use Rattle.rules.specs.Paging.{owner}
use Rattle.tables.specs.declared.table.Tables.{Tables}

abbrev pub state_of : Tables → (ℕ → Bool) → Counts → State
state_of t dirty counts = record {
  frames = t.frames;
  regions = vec_items t.regions;
  lies = vec_items t.lies;
  owners = vec_items t.owners;
  queue = vec_items t.queue;
  words = vec_items t.words;
  store = vec_items t.store;
  wired = vec_items t.wired;
  dirty = dirty;
  counts = counts;
}

-- other frames are modified
abbrev pub with_dirty : State → (ℕ → Bool) → State
with_dirty s dirty = record { frames = s.frames; regions = s.regions; lies = s.lies; owners = s.owners; queue = s.queue; words = s.words; store = s.store; wired = s.wired; dirty = dirty; counts = s.counts }

-- the word of frame f is stored
abbrev pub saved_to : State → ℕ → State
saved_to s f = record { frames = s.frames; regions = s.regions; lies = s.lies; owners = s.owners; queue = s.queue; words = s.words; store = slice_set s.store (owner s f) (slice_index s.words f); wired = s.wired; dirty = s.dirty; counts = s.counts }

-- the frame at a position of the queue is in use no more, and its page not resident
abbrev pub released : State → ℕ → State
released s at = record { frames = s.frames; regions = s.regions; lies = slice_set s.lies (owner s (slice_index s.queue at)) None; owners = s.owners; queue = remove s.queue at; words = s.words; store = s.store; wired = s.wired; dirty = s.dirty; counts = s.counts }

-- a word is written to frame f
abbrev pub word_written : State → ℕ → ℕ → State
word_written s f w = record { frames = s.frames; regions = s.regions; lies = s.lies; owners = s.owners; queue = s.queue; words = slice_set s.words f w; store = s.store; wired = s.wired; dirty = s.dirty; counts = s.counts }

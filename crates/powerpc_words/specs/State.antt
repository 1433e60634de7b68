-- The whole state of a board. Assumes nothing.
-- 16,384 table words, a modified mark for each of 256 frames, a wired mark for each of 8,192 slots, and the counter of slots to forget.
-- Slot k has the words 2 k and 2 k + 1, and stands in group k / 8.
use Rattle.std.specs.Prelude.{ℕ, ◌+◌, ◌*◌, Bool, false, List, replicate, slice_index, slice_index_or}

pub record State : Type 0 where
  pub words : List ℕ
  pub marks : List Bool
  pub wired : List Bool
  pub next : ℕ

-- the words and the wired mark of a slot
abbrev pub first : State → ℕ → ℕ
first st k = slice_index st.words (2 * k)

abbrev pub second : State → ℕ → ℕ
second st k = slice_index st.words (2 * k + 1)

abbrev pub wired_at : State → ℕ → Bool
wired_at st k = slice_index_or st.wired k false

-- the starting state: nothing held, nothing marked
unfoldable pub start : State
start = record { words = replicate 16384 0; marks = replicate 256 false; wired = replicate 8192 false; next = 0 }

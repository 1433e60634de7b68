-- The walk of the hardware from the table words alone, as the maker's manual has it. Assumes nothing.
--
-- A linear address of 48 bits has four indices of nine bits above its page offset of twelve. The walk begins at the PML4,
-- table 0, reads in each table the word at its index, goes on to the table at the physical page that the word names if
-- the word is present, and ends at a word of a leaf. Table t is the 512 words from 512 * t on.
use Rattle.std.specs.Prelude.{ℕ, ◌+◌, ◌*◌, ◌/◌, ◌%◌, List, Some, None, Option, slice_index}
use Rattle.x86_words.specs.declared.walk.Walk.{Walk}
use Rattle.x86_words.specs.Words.{table_of}

-- the linear page of a place: space s begins at the linear page 262,144 * s
abbrev pub linear : ℕ → ℕ → ℕ
linear s p = s * 262144 + p

abbrev pub and_then : {X Y : Type 0} → Option X → (X → Option Y) → Option Y
and_then None f = None
and_then (Some x) f = f x

-- the position of the word for a linear page in table t, whose words each cover `cover` pages
abbrev pub position : ℕ → ℕ → ℕ → ℕ
position t v cover = 512 * t + v / cover % 512

-- the positions of the four words that the walk for a linear page meets, if it comes to a leaf
unfoldable pub walk : List ℕ → ℕ → Option Walk
walk words v =
    and_then (table_of (slice_index words (position 0 v 134217728))) (λ a.
    and_then (table_of (slice_index words (position a v 262144))) (λ b.
    and_then (table_of (slice_index words (position b v 512))) (λ c.
    Some (record { root = position 0 v 134217728; entry = position a v 262144; directory = position b v 512; leaf = position c v 1 }))))

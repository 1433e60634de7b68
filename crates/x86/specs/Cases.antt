-- Worked cases of the x86-64 board, by the definitions. Assumes nothing.
use Rattle.std.specs.Prelude.{◌≡◌, ◌+◌, ◌*◌, true, false}
use Rattle.x86_words.specs.Words.{leaf_word, hit_word}
use Rattle.x86_words.specs.Walks.{linear, position}
use Rattle.x86_words.specs.State.{directory_at, leaf_at}

abbrev pub BoardCases : Type 0
BoardCases =
    -- space 1, page 0x12345: the directory of space 1 is table 3, its index 145; the index in a leaf, as table 6, is 325
    (directory_at 1 0x12345 ≡ 512 * 3 + 145)
    × (position 3 (linear 1 0x12345) 512 ≡ 512 * 3 + 145)
    × (leaf_at 6 0x12345 ≡ 512 * 6 + 325)
    × (position 6 (linear 1 0x12345) 1 ≡ 512 * 6 + 325)
    -- the leaf word for frame 5 and protection 3, after a read, and after a write
    × (leaf_word 5 3 false ≡ 0x5007)
    × (hit_word false 0x5007 ≡ 0x5027)
    × (hit_word true 0x5027 ≡ 0x5067)

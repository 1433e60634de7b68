-- Worked cases of the hashed page table: space 1, page 0x12345, frame 5, protection 3. Assumes nothing.
use Rattle.std.specs.Prelude.{◌≡◌, true, false}
use Rattle.powerpc_words.specs.Fields.{second_word, touched}
use Rattle.powerpc_words.specs.Hashing.{vsid, segment_of, group, entry_word}

-- VSID; primary and secondary group; the first word in each; the second word at first, after a read, and after a write
abbrev pub Cases : Type 0
Cases =
    (vsid 1 (segment_of 0x12345) ≡ 17)
    × (group 1 0x12345 false ≡ 852)
    × (group 1 0x12345 true ≡ 171)
    × (entry_word 1 0x12345 false ≡ 0x80000888)
    × (entry_word 1 0x12345 true ≡ 0x800008C8)
    × (second_word 5 3 ≡ 0x5002)
    × (touched false 0x5002 ≡ 0x5102)
    × (touched true 0x5102 ≡ 0x5182)

-- The worked cases, in one list: each computes from the definitions that the code's contracts cite. Assumes nothing.
use Rattle.std.specs.Prelude.{◌≡◌, ℕ, zero, suc, ◌+◌, ◌*◌, true, false, List, [], ◌∷◌, Some, None, Ok, Option}
use Rattle.x86_words.specs.Words.{leaf_word, hit_word}
use Rattle.x86_words.specs.Walks.{linear, position}
use Rattle.x86_words.specs.State.{directory_at, leaf_at}
use Rattle.powerpc_words.specs.Fields.{second_word, touched}
use Rattle.powerpc_words.specs.Hashing.{vsid, segment_of, group, entry_word}
use Rattle.trace.specs.Format.{encoded, content_at}
use Rattle.refusal.specs.declared.memory.MemoryRefusal.{MemoryRefusal}
use Rattle.refusal.specs.Codes.{memory_code}
use Rattle.calls.specs.declared.Call.{Call}
use Rattle.calls.specs.declared.Call.TheVariants.{Map, Read, Wire}
use Rattle.rules.specs.State.{State, fresh}
use Rattle.rules.specs.Refusals.{refusal}
use Rattle.rules.specs.Rules.{after}

-- the number of a call's refusal, 0 for none
abbrev pub number_of : Option MemoryRefusal → ℕ
number_of None = 0
number_of (Some e) = (memory_code e).number

-- the numbers that a memory in a state answers a list of calls with, where its pmap serves no access at once
unfoldable pub numbers : State → List Call → List ℕ
numbers s [] = []
numbers s (c ∷ cs) = number_of (refusal s c) ∷ numbers (after s c false) cs

-- wires of n pages of space 0 from a page on
unfoldable pub wires : ℕ → ℕ → List Call
wires page zero = []
wires page (suc n) = Wire 0 page ∷ wires (page + 1) n

abbrev pub WorkedCases : Type 0
WorkedCases =
    -- x86-64: space 1 has the page directory in table 3, and page 0x12345 the directory index 145
    (directory_at 1 0x12345 ≡ 512 * 3 + 145)
    -- so has the hardware's walk
    × (position 3 (linear 1 0x12345) 512 ≡ 512 * 3 + 145)
    -- in a leaf, as table 6, the page has the index 325
    × (leaf_at 6 0x12345 ≡ 512 * 6 + 325)
    -- and so in the walk
    × (position 6 (linear 1 0x12345) 1 ≡ 512 * 6 + 325)
    -- the leaf word for frame 5 and protection 3, not wired
    × (leaf_word 5 3 false ≡ 0x5007)
    -- that word after a read
    × (hit_word false 0x5007 ≡ 0x5027)
    -- and then after a write
    × (hit_word true 0x5027 ≡ 0x5067)
    -- PowerPC: the VSID of the same place
    × (vsid 1 (segment_of 0x12345) ≡ 17)
    -- its primary group
    × (group 1 0x12345 false ≡ 852)
    -- its secondary group
    × (group 1 0x12345 true ≡ 171)
    -- the first word of its entry in the primary group
    × (entry_word 1 0x12345 false ≡ 0x80000888)
    -- and in the secondary group, with H on
    × (entry_word 1 0x12345 true ≡ 0x800008C8)
    -- the second word for frame 5 and protection 3
    × (second_word 5 3 ≡ 0x5002)
    -- that word after a read
    × (touched false 0x5002 ≡ 0x5102)
    -- and then after a write
    × (touched true 0x5102 ≡ 0x5182)
    -- the record of a trace that maps space 0, page 16, count 2, object 0, offset 0, protection 3, as bytes
    × (encoded (Map 0 16 2 0 0 3) ≡ Some (0x10 ∷ 0x00 ∷ 0x04 ∷ 0x00 ∷ 0x40 ∷ 0x01 ∷ 0x80 ∷ 0x00 ∷ 0x00 ∷ 0x00 ∷ 0x00 ∷ 0x00 ∷ []))
    -- and the same bytes read back
    × (content_at (0x10 ∷ 0x00 ∷ 0x04 ∷ 0x00 ∷ 0x40 ∷ 0x01 ∷ 0x80 ∷ 0x00 ∷ 0x00 ∷ 0x00 ∷ 0x00 ∷ 0x00 ∷ []) 0 ≡ Ok (Map 0 16 2 0 0 3))
    -- a map of one page passes at the last page of a space and at the last page of an object; of two pages it gets 6
    × (numbers (fresh 1) (Map 0 262143 1 0 0 3 ∷ []) ≡ 0 ∷ [])
    × (numbers (fresh 1) (Map 0 262143 2 0 0 3 ∷ []) ≡ 6 ∷ [])
    × (numbers (fresh 1) (Map 0 0 1 0 255 3 ∷ []) ≡ 0 ∷ [])
    × (numbers (fresh 1) (Map 0 0 2 0 255 3 ∷ []) ≡ 6 ∷ [])
    -- with eight frames, wires of eight mapped places pass, and of a ninth gets 13
    × (numbers (fresh 8) (Map 0 16 9 0 0 3 ∷ wires 16 9) ≡ 0 ∷ 0 ∷ 0 ∷ 0 ∷ 0 ∷ 0 ∷ 0 ∷ 0 ∷ 0 ∷ 13 ∷ [])
    -- with one frame, wired, a mapped read of another object page gets 14
    × (numbers (fresh 1) (Map 0 16 2 0 0 3 ∷ Wire 0 16 ∷ Read 0 17 ∷ []) ≡ 0 ∷ 0 ∷ 14 ∷ [])

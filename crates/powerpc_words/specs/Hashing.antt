-- Where a place may stand in the hashed page table. Assumes nothing.
-- A page of 18 bits is a segment of 2 bits and an index of 16 bits. The index's upper 6 bits are the API of the first word;
-- the group is a hash of VSID and index. An entry stands in the primary group with H off or in the secondary with H on.
use Rattle.std.specs.Prelude.{ℕ, ◌+◌, ◌-◌, ◌*◌, ◌/◌, ◌%◌, Bool, true, false, cond, bit_xor}
use Rattle.powerpc_words.specs.Fields.{first_word}

-- the virtual segment of a segment of a space
unfoldable pub vsid : ℕ → ℕ → ℕ
vsid space segment = 16 * space + segment

abbrev pub segment_of : ℕ → ℕ
segment_of page = page / 65536

abbrev pub index_of : ℕ → ℕ
index_of page = page % 65536

-- the low ten bits of VSID xor index
unfoldable pub hash : ℕ → ℕ → ℕ
hash space page = bit_xor (vsid space (segment_of page)) (index_of page) % 1024

-- the primary group, or the secondary: its complement in ten bits
unfoldable pub group : ℕ → ℕ → Bool → ℕ
group space page false = hash space page
group space page true = 1023 - hash space page

-- the first word of the place's entry in its primary or its secondary group
unfoldable pub entry_word : ℕ → ℕ → Bool → ℕ
entry_word space page side = first_word (vsid space (segment_of page)) (cond side 1 0) (index_of page / 1024)

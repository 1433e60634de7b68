-- The two words of an entry of the hashed page table, field by field. Assumes nothing.
-- Bits are named here by their weight: bit k of a word is worth 2 ^ k.
--
--   first word    2^31 valid | 2^30 .. 2^7 VSID | 2^6 H | 2^5 .. 2^0 API
--   second word   2^31 .. 2^12 frame | 2^8 R | 2^7 C | 2^1 .. 2^0 PP
use Rattle.std.specs.Prelude.{ℕ, ◌+◌, ◌-◌, ◌*◌, ◌/◌, ◌%◌, ◌^◌, Bool, true, false, cond, ◌==◌}

abbrev pub bit : ℕ → ℕ → ℕ
bit w k = w / 2 ^ k % 2

-- w with bit k on
abbrev pub with_bit : ℕ → ℕ → ℕ
with_bit w k = w + (1 - bit w k) * 2 ^ k

-- w with bit k off
abbrev pub without_bit : ℕ → ℕ → ℕ
without_bit w k = w - bit w k * 2 ^ k

-- the first word of an entry in use
abbrev pub first_word : ℕ → ℕ → ℕ → ℕ
first_word vsid h api = 0x8000_0000 + vsid * 128 + h * 64 + api

-- the frame of a second word, and whether its C bit is on
abbrev pub frame_of : ℕ → ℕ
frame_of w = w / 4096

unfoldable pub changed : ℕ → Bool
changed w = bit w 7 == 1

-- PP is 2 for protection 3, and 3 for protection 1
abbrev pub protection_of : ℕ → ℕ
protection_of w = cond (w % 4 == 2) 3 1

abbrev pub pp_of : ℕ → ℕ
pp_of protection = cond (protection == 3) 2 3

-- the second word of a new entry: R and C off
abbrev pub second_word : ℕ → ℕ → ℕ
second_word frame protection = frame * 4096 + pp_of protection

-- the second word after a hit: R on, and after a write C too
unfoldable pub touched : Bool → ℕ → ℕ
touched true w = with_bit (with_bit w 8) 7
touched false w = with_bit w 8

-- the second word with protection 1
unfoldable pub lowered : ℕ → ℕ
lowered w = w - w % 4 + 3

-- the second word with C off
unfoldable pub cleaned : ℕ → ℕ
cleaned w = without_bit w 7

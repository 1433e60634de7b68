-- The table words of the x86-64 board: which bit says what. Assumes nothing.
--
--   63        20 19     12  11 10  9  8  7  6  5  4  3  2  1  0
--  +------------+---------+------+--+-----+--+--+-----+--+--+--+
--  |     0      |  page   |  0 0 |W | 0 0 |D |A | 0 0 |U |R |P |
--  +------------+---------+------+--+-----+--+--+-----+--+--+--+
--   P present, R writable, U user, A accessed, D dirty, W wired (a bit that the hardware leaves to software)
--
-- A word of a leaf names a frame by its page; a word of the three upper tables names the table below it,
-- and table t lies at physical page 256 + t.
use Rattle.std.specs.Prelude.{ℕ, ◌+◌, ◌-◌, ◌*◌, ◌/◌, ◌%◌, ◌^◌, Bool, cond, not, ◌&&◌, ◌||◌, Some, None, Option, ◌==◌, nat_le, nat_lt}
use Rattle.x86_words.specs.declared.word.Bit.{Bit}
use Rattle.x86_words.specs.declared.word.Bit.TheVariants.{Present, Writable, User, Accessed, Dirty, Wired}

-- the place of a bit in a word
abbrev pub place_of : Bit → ℕ
place_of Present = 0
place_of Writable = 1
place_of User = 2
place_of Accessed = 5
place_of Dirty = 6
place_of Wired = 9

-- a bit of a word is on; the word with that bit on, and with it off
unfoldable pub is_on : Bit → ℕ → Bool
is_on b w = w / 2 ^ place_of b % 2 == 1

unfoldable pub put_on : Bit → ℕ → ℕ
put_on b w = w + (1 - w / 2 ^ place_of b % 2) * 2 ^ place_of b

unfoldable pub put_off : Bit → ℕ → ℕ
put_off b w = w - w / 2 ^ place_of b % 2 * 2 ^ place_of b

-- the tests of a word's bits
abbrev pub present : ℕ → Bool
present = is_on Present

abbrev pub writable : ℕ → Bool
writable = is_on Writable

abbrev pub dirty : ℕ → Bool
dirty = is_on Dirty

abbrev pub wired : ℕ → Bool
wired = is_on Wired

-- the frame of a leaf word: the page field, of which a frame uses eight bits
unfoldable pub frame_of : ℕ → ℕ
frame_of w = w / 4096 % 256

abbrev pub protection_of : ℕ → ℕ
protection_of w = cond (writable w) 3 1

-- the fresh word of a mapping
unfoldable pub leaf_word : ℕ → ℕ → Bool → ℕ
leaf_word frame protection on = frame * 4096 + 5 + cond (protection == 3) 2 0 + cond on 512 0

-- the word that points down to table t
unfoldable pub pointer : ℕ → ℕ
pointer t = (256 + t) * 4096 + 7

-- the table that a word points to: the word is present, and its page is that of a table
unfoldable pub table_of : ℕ → Option ℕ
table_of w = cond (present w && (nat_le 256 (w / 4096) && nat_lt (w / 4096) 272)) (Some (w / 4096 - 256)) None

unfoldable pub points_to : ℕ → ℕ → Bool
points_to w t = present w && w / 4096 == 256 + t

-- a word with one bit put on or off
abbrev pub touched : ℕ → ℕ
touched = put_on Accessed

abbrev pub dirtied : ℕ → ℕ
dirtied = put_on Dirty

abbrev pub cleaned : ℕ → ℕ
cleaned = put_off Dirty

abbrev pub read_only : ℕ → ℕ
read_only = put_off Writable

abbrev pub unwired : ℕ → ℕ
unwired = put_off Wired

-- a leaf word after a hit: the hardware sets the accessed bit, and at a write the dirty bit
abbrev pub hit_word : Bool → ℕ → ℕ
hit_word write w = cond write (dirtied (touched w)) (touched w)

-- a leaf word lets a read or a write pass
abbrev pub serves : ℕ → Bool → Bool
serves w write = present w && (not write || writable w)

-- a leaf word maps a frame
abbrev pub maps : ℕ → ℕ → Bool
maps w f = present w && frame_of w == f

-- a word has a frame with its dirty bit on
abbrev pub dirty_in : ℕ → ℕ → Bool
dirty_in w f = dirty w && frame_of w == f

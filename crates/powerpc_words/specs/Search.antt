-- Searches of a group of eight slots, and the lookup that the hardware does. Assumes nothing.
use Rattle.std.specs.Prelude.{ℕ, zero, suc, ◌+◌, ◌*◌, ◌%◌, Bool, true, false, cond, List, Some, None, Option, ◌==◌, slice_index, slice_index_or}
use Rattle.powerpc_words.specs.Hashing.{group, entry_word}
use Rattle.powerpc_words.specs.State.{State}

-- the lowest of n slots from `at` on whose first word is w
unfoldable pub slot_from : List ℕ → ℕ → ℕ → ℕ → Option ℕ
slot_from words w at zero = None
slot_from words w at (suc n) = cond (slice_index words (2 * at) == w) (Some at) (slot_from words w (at + 1) n)

-- the lowest of the eight slots of a group whose first word is w
unfoldable pub slot_in : List ℕ → ℕ → ℕ → Option ℕ
slot_in words g w = slot_from words w (8 * g) 8

-- the first answer, or else the second
abbrev pub or_else : Option ℕ → Option ℕ → Option ℕ
or_else None b = b
or_else (Some k) b = Some k

-- the hardware's lookup on the table words alone: the primary group for the first word with H off, then the secondary with H on
unfoldable pub lookup : List ℕ → ℕ → ℕ → Option ℕ
lookup words space page =
    or_else (slot_in words (group space page false) (entry_word space page false))
    (slot_in words (group space page true) (entry_word space page true))

-- the first invalid slot, primary group before secondary
unfoldable pub unused : List ℕ → ℕ → ℕ → Option ℕ
unused words space page = or_else (slot_in words (group space page false) 0) (slot_in words (group space page true) 0)

-- the first unwired of n slots of a group from position `at` on, 0 after 7
unfoldable pub unwired_from : List Bool → ℕ → ℕ → ℕ → Option ℕ
unwired_from wired g at zero = None
unwired_from wired g at (suc n) =
    cond (slice_index_or wired (8 * g + at % 8) false) (unwired_from wired g (at + 1) n) (Some (8 * g + at % 8))

unfoldable pub unwired_in : List Bool → ℕ → ℕ → Option ℕ
unwired_in wired g next = unwired_from wired g next 8

-- the slot to forget: the first unwired one from the counter on, in the primary group or, if all its slots are wired, in the secondary
unfoldable pub victim_of : List Bool → ℕ → ℕ → ℕ → Option ℕ
victim_of wired next space page =
    or_else (unwired_in wired (group space page false) next) (unwired_in wired (group space page true) next)

abbrev pub victim : State → ℕ → ℕ → Option ℕ
victim st space page = victim_of st.wired st.next space page

-- What each call leaves of a board's state, by the rules of the hashed page table. Assumes nothing.
use Rattle.std.specs.Prelude.{ℕ, zero, suc, ◌+◌, ◌*◌, ◌/◌, ◌%◌, Bool, true, false, cond, not, ◌&&◌, ◌||◌, List, map, Some, None, Option, ◌==◌, nat_lt, slice_index, slice_index_or, slice_set}
use Rattle.std.specs.List.{range_with_len}
use Rattle.pmap.specs.Meaning.{allows}
use Rattle.powerpc_words.specs.Fields.{frame_of, changed, protection_of, second_word, touched, lowered, cleaned}
use Rattle.powerpc_words.specs.Hashing.{group, entry_word}
use Rattle.powerpc_words.specs.State.{State, second}
use Rattle.powerpc_words.specs.Search.{lookup, unused, victim}

-- a slot comes to hold two words and a wired mark
abbrev pub written : State → ℕ → ℕ → ℕ → Bool → State
written st k a b w = record {
  words = slice_set (slice_set st.words (2 * k) a) (2 * k + 1) b;
  marks = st.marks;
  wired = slice_set st.wired k w;
  next = st.next;
}

-- the C bit of a second word goes into the mark of its frame
abbrev pub merged : State → ℕ → State
merged st w = record {
  words = st.words;
  marks = cond (changed w) (slice_set st.marks (frame_of w) true) st.marks;
  wired = st.wired;
  next = st.next;
}

-- a slot is emptied: its C bit is merged, its words become zero, its wired mark goes off
unfoldable pub emptied : State → ℕ → State
emptied st k = written (merged st (second st k)) k 0 0 false

-- remove
abbrev pub emptied_at : State → Option ℕ → State
emptied_at st None = st
emptied_at st (Some k) = emptied st k

unfoldable pub removed : State → ℕ → ℕ → State
removed st space page = emptied_at st (lookup st.words space page)

-- a slot is emptied to make room, and the counter moves to the slot after it
unfoldable pub forgotten : State → ℕ → State
forgotten st k = record {
  words = (emptied st k).words;
  marks = (emptied st k).marks;
  wired = (emptied st k).wired;
  next = (k % 8 + 1) % 8;
}

-- an entry is written into a slot: H off in the place's primary group, on in its secondary
abbrev pub is_secondary : ℕ → ℕ → ℕ → Bool
is_secondary space page k = not (k / 8 == group space page false)

unfoldable pub filled : State → ℕ → ℕ → ℕ → ℕ → ℕ → Bool → State
filled st k space page frame protection wired =
    written st k (entry_word space page (is_secondary space page k)) (second_word frame protection) wired

-- a new entry goes into the first invalid slot, or else into the slot that is forgotten
abbrev pub placed_at : State → Option ℕ → Option ℕ → ℕ → ℕ → ℕ → ℕ → Bool → State
placed_at st (Some k) v space page frame protection wired = filled st k space page frame protection wired
placed_at st None (Some k) space page frame protection wired = filled (forgotten st k) k space page frame protection wired
placed_at st None None space page frame protection wired = st

unfoldable pub placed : State → ℕ → ℕ → ℕ → ℕ → Bool → State
placed st space page frame protection wired =
    placed_at st (unused st.words space page) (victim st space page) space page frame protection wired

-- enter: the old entry goes, the new one is placed
unfoldable pub entered : State → ℕ → ℕ → ℕ → ℕ → Bool → State
entered st space page frame protection wired = placed (removed st space page) space page frame protection wired

-- the second word of a slot changes
abbrev pub reworded : State → ℕ → ℕ → State
reworded st k b = record { words = slice_set st.words (2 * k + 1) b; marks = st.marks; wired = st.wired; next = st.next }

-- access: a hit sets R, a write hit C too
abbrev pub accessed_at : State → Option ℕ → Bool → State
accessed_at st None write = st
accessed_at st (Some k) write = cond (allows (protection_of (second st k)) write) (reworded st k (touched write (second st k))) st

unfoldable pub accessed : State → ℕ → ℕ → Bool → State
accessed st space page write = accessed_at st (lookup st.words space page) write

-- lower: PP becomes 3
abbrev pub lowered_at : State → Option ℕ → State
lowered_at st None = st
lowered_at st (Some k) = reworded st k (lowered (second st k))

unfoldable pub restricted : State → ℕ → ℕ → State
restricted st space page = lowered_at st (lookup st.words space page)

-- unwire: the wired mark goes off
abbrev pub unwired_at : State → Option ℕ → State
unwired_at st None = st
unwired_at st (Some k) = record { words = st.words; marks = st.marks; wired = slice_set st.wired k false; next = st.next }

unfoldable pub unwired : State → ℕ → ℕ → State
unwired st space page = unwired_at st (lookup st.words space page)

-- slot k maps the frame; it does so with C on
unfoldable pub maps : List ℕ → ℕ → ℕ → Bool
maps words f k = nat_lt 0 (slice_index words (2 * k)) && frame_of (slice_index words (2 * k + 1)) == f

unfoldable pub dirty_at : List ℕ → ℕ → ℕ → Bool
dirty_at words f k = maps words f k && changed (slice_index words (2 * k + 1))

-- one of the first n slots does
unfoldable pub any_dirty : List ℕ → ℕ → ℕ → Bool
any_dirty words f zero = false
any_dirty words f (suc n) = dirty_at words f n || any_dirty words f n

-- a frame is modified: its mark is on, or a slot maps it with C on
unfoldable pub modified_in : State → ℕ → Bool
modified_in st f = slice_index_or st.marks f false || any_dirty st.words f 8192

-- one slot of a drop, and of a clear-modified
abbrev pub drop_at : State → ℕ → ℕ → State
drop_at st f k = cond (maps st.words f k) (emptied st k) st

abbrev pub clean_at : State → ℕ → ℕ → State
clean_at st f k = cond (maps st.words f k) (reworded st k (cleaned (second st k))) st

-- drop: every slot of the frame is emptied
unfoldable pub dropped_word : List ℕ → ℕ → ℕ → ℕ
dropped_word words f i = cond (maps words f (i / 2)) 0 (slice_index words i)

unfoldable pub dropped_wired : List ℕ → List Bool → ℕ → ℕ → Bool
dropped_wired words wired f k = cond (maps words f k) false (slice_index_or wired k false)

unfoldable pub dropped : State → ℕ → State
dropped st f = record {
  words = map (dropped_word st.words f) (range_with_len 0 16384);
  marks = slice_set st.marks f (modified_in st f);
  wired = map (dropped_wired st.words st.wired f) (range_with_len 0 8192);
  next = st.next;
}

-- clear-modified: the frame's mark and the C bits of its slots go off
unfoldable pub clean_word : List ℕ → ℕ → ℕ → ℕ
clean_word words f i = cond (maps words f (i / 2) && i % 2 == 1) (cleaned (slice_index words i)) (slice_index words i)

unfoldable pub unmarked : State → ℕ → State
unmarked st f = record {
  words = map (clean_word st.words f) (range_with_len 0 16384);
  marks = slice_set st.marks f false;
  wired = st.wired;
  next = st.next;
}

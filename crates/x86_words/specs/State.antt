-- What the x86-64 board holds, and what it holds after each of its calls. Assumes nothing: the definitions speak of every
-- state, also of one that no call leads to.
--
-- 8,192 words make 16 tables of 512: table 0 is the PML4, 1 the PDPT, 2 + s the page directory of space s, 6 to 15 are
-- leaves. Beside the table stand a modified mark for each of the 256 frames, and the counter: the leaf to look at first
-- when one has to be taken.
use Rattle.std.specs.Prelude.{ℕ, zero, suc, ◌+◌, ◌-◌, ◌*◌, ◌/◌, ◌%◌, Bool, false, cond, not, ◌&&◌, ◌||◌, List, map, replicate, Some, None, Option, ◌==◌, nat_le, nat_lt, slice_index, slice_index_or, slice_set}
use Rattle.std.specs.List.{range_with_len}
use Rattle.pmap.specs.declared.access.Access.{Access}
use Rattle.pmap.specs.declared.access.Access.TheVariants.{Hit, Miss}
use Rattle.pmap.specs.Meaning.{Mapping}
use Rattle.pmap.specs.Tally.{tally}
use Rattle.x86_words.specs.declared.walk.Walk.{Walk}
use Rattle.x86_words.specs.Words.{present, dirty, wired, frame_of, protection_of, pointer, points_to, touched, cleaned, hit_word, serves, maps, dirty_in}
use Rattle.x86_words.specs.Walks.{linear, walk}

pub record State : Type 0 where
  pub words : List ℕ
  pub marks : List Bool
  pub next : ℕ

abbrev pub word_at : State → ℕ → ℕ
word_at st k = slice_index st.words k

-- one word is written
abbrev pub written : State → ℕ → ℕ → State
written st k w = record { words = slice_set st.words k w; marks = st.marks; next = st.next }

abbrev pub rewritten : State → ℕ → (ℕ → ℕ) → State
rewritten st k change = written st k (change (word_at st k))

-- the dirty bit of a word is merged into the mark of its frame
abbrev pub merged : State → ℕ → State
merged st w = record { words = st.words; marks = slice_set st.marks (frame_of w) (slice_index_or st.marks (frame_of w) false || dirty w); next = st.next }

-- one leaf word is emptied, its dirty bit first merged
abbrev pub forgotten : State → ℕ → State
forgotten st k = written (merged st (word_at st k)) k 0

-- some position of a set, below n, has the frame with its dirty bit on
unfoldable pub any_dirty : List ℕ → (ℕ → Bool) → ℕ → ℕ → Bool
any_dirty words chosen f zero = false
any_dirty words chosen f (suc n) = (chosen n && dirty_in (slice_index words n) f) || any_dirty words chosen f n

-- all positions of a set are emptied, their dirty bits first merged
unfoldable pub emptied : State → (ℕ → Bool) → State
emptied st gone = record {
  words = map (λ k. cond (gone k) 0 (word_at st k)) (range_with_len 0 8192);
  marks = map (λ f. slice_index_or st.marks f false || any_dirty st.words gone f 8192) (range_with_len 0 256);
  next = st.next;
}

-- what comes of a walk: one thing where it found no leaf, another at the words that it met
abbrev pub reached : {X : Type 0} → Option Walk → X → (Walk → X) → X
reached None missing at = missing
reached (Some w) missing at = at w

-- find
abbrev pub found_in : ℕ → Option Mapping
found_in w = cond (present w) (Some (frame_of w, protection_of w, wired w)) None

abbrev pub found : State → ℕ → ℕ → Option Mapping
found st s p = reached (walk st.words (linear s p)) None (λ w. found_in (word_at st w.leaf))

-- remove, lower, unwire
abbrev pub removed : State → ℕ → ℕ → State
removed st s p = reached (walk st.words (linear s p)) st (λ w. forgotten st w.leaf)

abbrev pub rewritten_at : (ℕ → ℕ) → State → ℕ → ℕ → State
rewritten_at change st s p = reached (walk st.words (linear s p)) st (λ w. rewritten st w.leaf change)

-- access: a hit puts the accessed bit on in the four words that the walk met, a write the leaf's dirty bit too
abbrev pub hit : State → Walk → Bool → State
hit st w write =
    rewritten (rewritten (rewritten (rewritten st w.root touched) w.entry touched) w.directory touched) w.leaf (hit_word write)

abbrev pub access_answer : State → ℕ → ℕ → Bool → Access
access_answer st s p write =
    reached (walk st.words (linear s p)) Miss (λ w. cond (serves (word_at st w.leaf) write) (Hit (frame_of (word_at st w.leaf))) Miss)

abbrev pub accessed : State → ℕ → ℕ → Bool → State
accessed st s p write =
    reached (walk st.words (linear s p)) st (λ w. cond (serves (word_at st w.leaf) write) (hit st w write) st)

-- the positions of the leaves, and of the page directories
abbrev pub is_leaf : ℕ → Bool
is_leaf k = nat_le 3072 k

abbrev pub is_directory : ℕ → Bool
is_directory k = nat_le 1024 k && nat_lt k 3072

-- the positions whose word maps a frame
abbrev pub mapping : State → ℕ → ℕ → Bool
mapping st f k = is_leaf k && maps (word_at st k) f

-- drop: every word that maps the frame is emptied
abbrev pub dropped : State → ℕ → State
dropped st f = emptied st (mapping st f)

-- modified: the mark is on, or a leaf word has the frame with its dirty bit on
abbrev pub modified_in : State → ℕ → Bool
modified_in st f = slice_index_or st.marks f false || any_dirty st.words is_leaf f 8192

-- clear-modified: the mark and those bits go off
abbrev pub unmarked_word : State → ℕ → ℕ → ℕ
unmarked_word st f k = cond (mapping st f k) (cleaned (word_at st k)) (word_at st k)

unfoldable pub bits_off : State → ℕ → State
bits_off st f = record { words = map (unmarked_word st f) (range_with_len 0 8192); marks = st.marks; next = st.next }

abbrev pub mark_off : State → ℕ → State
mark_off st f = record { words = st.words; marks = slice_set st.marks f false; next = st.next }

abbrev pub unmarked : State → ℕ → State
unmarked st f = mark_off (bits_off st f) f

-- some of the n words from a position on is wired
unfoldable pub any_wired : List ℕ → ℕ → ℕ → Bool
any_wired words from zero = false
any_wired words from (suc n) = wired (slice_index words (from + n)) || any_wired words from n

abbrev pub holds_wired : List ℕ → ℕ → Bool
holds_wired words t = any_wired words (512 * t) 512

abbrev pub leaf_after : ℕ → ℕ
leaf_after t = cond (t == 15) 6 (t + 1)

-- the first of n leaves from t on that holds no wired mapping or, where each of them holds one, the leaf after them
unfoldable pub free_from : List ℕ → ℕ → ℕ → ℕ
free_from words t zero = t
free_from words t (suc n) = cond (holds_wired words t) (free_from words (leaf_after t) n) t

-- the leaf to take: the first of the ten, from the counter on, without a wired mapping (if nine have one, it is the tenth)
abbrev pub free_leaf : State → ℕ
free_leaf st = free_from st.words st.next 9

-- the directory words that point to a leaf are emptied
abbrev pub unlinked_word : State → ℕ → ℕ → ℕ
unlinked_word st t k = cond (is_directory k && points_to (word_at st k) t) 0 (word_at st k)

unfoldable pub unlinked : State → ℕ → State
unlinked st t = record {
  words = map (unlinked_word st t) (range_with_len 0 8192);
  marks = st.marks;
  next = st.next;
}

-- a directory word comes to point to a leaf, and the counter moves past that leaf
abbrev pub linked : State → ℕ → ℕ → State
linked st t k = record { words = slice_set st.words k (pointer t); marks = st.marks; next = leaf_after t }

-- the position of the directory word for a place, and that of the word for a page in leaf t
abbrev pub directory_at : ℕ → ℕ → ℕ
directory_at s p = 512 * (2 + s) + p / 512

abbrev pub leaf_at : ℕ → ℕ → ℕ
leaf_at t p = 512 * t + p % 512

abbrev pub in_leaf : ℕ → ℕ → Bool
in_leaf t k = k / 512 == t

-- leaf t is taken for a place: all in it is forgotten, and the directory word that pointed to it
abbrev pub taken : State → ℕ → ℕ → ℕ → State
taken st t s p = linked (unlinked (emptied st (in_leaf t)) t) t (directory_at s p)

-- enter: the word is written where the place's leaf has it; where there is no leaf, one is taken
abbrev pub installed : State → ℕ → ℕ → ℕ → State
installed st s p w =
    reached (walk st.words (linear s p))
    (written (taken st (free_leaf st) s p) (leaf_at (free_leaf st) p) w)
    (λ v. written (forgotten st v.leaf) v.leaf w)

-- the leaf words that are wired, but for that of the place itself
abbrev pub is_own : Option Walk → ℕ → Bool
is_own None k = false
is_own (Some w) k = k == w.leaf

abbrev pub wired_other : State → Option Walk → ℕ → Bool
wired_other st own k = wired (word_at st k) && not (is_own own k)

abbrev pub wired_beside : State → Option Walk → ℕ → Bool
wired_beside st own k = is_leaf k && wired_other st own k

-- eight other places are wired
abbrev pub crowded : State → ℕ → ℕ → Bool
crowded st s p = nat_le 8 (tally (wired_beside st (walk st.words (linear s p))) 8192)

-- clear: PML4 entry 0 and the four PDPT entries point down, every other word is zero, no mark is on, the counter is 6
unfoldable pub start_word : ℕ → ℕ
start_word k = cond (k == 0) (pointer 1) (cond (nat_le 512 k && nat_lt k 516) (pointer (k - 512 + 2)) 0)

unfoldable pub wiped : State → State
wiped st = record { words = map start_word (range_with_len 0 8192); marks = st.marks; next = st.next }

unfoldable pub marks_off : State → State
marks_off st = record { words = st.words; marks = replicate 256 false; next = st.next }

-- the starting state, whatever was there before
unfoldable pub started : State
started = record { words = map start_word (range_with_len 0 8192); marks = replicate 256 false; next = 6 }

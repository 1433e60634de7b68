-- How object pages come into frames and go out of them. Assumes nothing.
use Rattle.std.specs.Prelude.{ℕ, ◌/◌, ◌%◌, Bool, true, cond, not, ◌&&◌, List, [], ◌∷◌, ◌++◌, map, length, Some, None, Option, ◌==◌, nat_eq, nat_lt, slice_index, slice_set}
use Rattle.std.specs.List.{range_with_len}
use Rattle.pmap.specs.Meaning.{marked, unmarked}
use Rattle.pmap.specs.Tally.{tally}
use Rattle.rules.specs.declared.answer.Evicted.{Evicted}
use Rattle.rules.specs.Lists.{first, without}
use Rattle.rules.specs.State.{State, lie, is_modified}
use Rattle.rules.specs.Refusals.{free}

-- the frame whose page goes: of those in use and not wired the one loaded longest ago
abbrev pub victim : State → Option ℕ
victim s = first (free s.wired) s.queue

-- the page of frame f is evicted: its word is stored if it is modified, and the frame is in use no more
abbrev pub owner : State → ℕ → ℕ
owner s f = slice_index s.owners f

abbrev pub evict : State → ℕ → State
evict s f = record {
  frames = s.frames;
  regions = s.regions;
  lies = slice_set s.lies (owner s f) None;
  owners = s.owners;
  queue = without (nat_eq f) s.queue;
  words = s.words;
  store = cond (s.dirty f) (slice_set s.store (owner s f) (slice_index s.words f)) s.store;
  wired = s.wired;
  dirty = unmarked s.dirty f;
  counts = s.counts;
}

abbrev pub evicted_page : State → ℕ → Evicted
evicted_page s f = record { object = owner s f / 256; index = owner s f % 256; stored = s.dirty f }

-- object page x is loaded from the backing store into frame f
abbrev pub load : State → ℕ → ℕ → State
load s x f = record {
  frames = s.frames;
  regions = s.regions;
  lies = slice_set s.lies x (Some f);
  owners = slice_set s.owners f x;
  queue = s.queue ++ (f ∷ []);
  words = slice_set s.words f (slice_index s.store x);
  store = s.store;
  wired = s.wired;
  dirty = s.dirty;
  counts = s.counts;
}

-- object page x is brought in: into an unused frame, the lowest first, else into that of the victim
abbrev pub replaced : State → ℕ → Option ℕ → State
replaced s x None = s
replaced s x (Some f) = load (evict s f) x f

abbrev pub replaced_page : State → Option ℕ → Option Evicted
replaced_page s None = None
replaced_page s (Some f) = Some (evicted_page s f)

abbrev pub unused : State → Bool
unused s = nat_lt (length s.queue) s.frames

abbrev pub brought : State → ℕ → State
brought s x = cond (unused s) (load s x (length s.queue)) (replaced s x (victim s))

abbrev pub brought_out : State → Option Evicted
brought_out s = cond (unused s) None (replaced_page s (victim s))

-- the state in which x is resident, and what that evicted
abbrev pub resident_by : State → ℕ → Option ℕ → State
resident_by s x None = brought s x
resident_by s x (Some f) = s

abbrev pub resident : State → ℕ → State
resident s x = resident_by s x (lie s x)

abbrev pub evicted_by : State → Option ℕ → Option Evicted
evicted_by s None = brought_out s
evicted_by s (Some f) = None

-- a word is written to the frame of a resident page
abbrev pub written_to : State → ℕ → Option ℕ → State
written_to s w None = s
written_to s w (Some f) = record {
  frames = s.frames;
  regions = s.regions;
  lies = s.lies;
  owners = s.owners;
  queue = s.queue;
  words = slice_set s.words f w;
  store = s.store;
  wired = s.wired;
  dirty = marked s.dirty true f;
  counts = s.counts;
}

abbrev pub word_in : State → Option ℕ → ℕ
word_in s None = 0
word_in s (Some f) = slice_index s.words f

-- the resident and modified pages of an object are stored
unfoldable pub stored_word : State → ℕ → ℕ → ℕ
stored_word s o x = cond (x / 256 == o && is_modified s x) (word_in s (lie s x)) (slice_index s.store x)

unfoldable pub stored_words : State → ℕ → List ℕ
stored_words s o = map (stored_word s o) (range_with_len 0 2048)

abbrev pub synced : State → ℕ → State
synced s o = record {
  frames = s.frames;
  regions = s.regions;
  lies = s.lies;
  owners = s.owners;
  queue = s.queue;
  words = s.words;
  store = stored_words s o;
  wired = s.wired;
  dirty = λ f. s.dirty f && not (owner s f / 256 == o);
  counts = s.counts;
}

abbrev pub synced_count : State → ℕ → ℕ
synced_count s o = tally (λ x. (x / 256 == o) && is_modified s x) 2048

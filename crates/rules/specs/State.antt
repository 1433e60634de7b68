-- The state of a memory, apart from what its pmap is free to forget. Assumes nothing.
--
-- An object page goes by its number, 256 × object + index; there are 8 objects of 256 pages.
use Rattle.std.specs.Prelude.{ℕ, ◌+◌, ◌-◌, ◌*◌, Bool, false, List, [], replicate, Some, None, Option, slice_index_or}
use Rattle.std.specs.List.{range_with_len}
use Rattle.rules.specs.declared.counts.Counts.{Counts}
use Rattle.rules.specs.declared.region.Region.{Region}
use Rattle.rules.specs.declared.region.WiredPlace.{WiredPlace}

pub record State : Type 0 where
  -- how many frames there are
  pub frames : ℕ
  pub regions : List Region
  -- for each object page the frame that it lies in, if it is resident
  pub lies : List (Option ℕ)
  -- for each frame the object page that was loaded into it last
  pub owners : List ℕ
  -- the frames in use, the one loaded longest ago first
  pub queue : List ℕ
  -- the word in each frame
  pub words : List ℕ
  -- the backing store: a word for each object page
  pub store : List ℕ
  pub wired : List WiredPlace
  -- the modified frames, as the pmap tells them
  pub dirty : ℕ → Bool
  pub counts : Counts

-- the frame of an object page
abbrev pub lie : State → ℕ → Option ℕ
lie s x = slice_index_or s.lies x None

-- an object page is modified while its frame is
abbrev pub dirty_in : (ℕ → Bool) → Option ℕ → Bool
dirty_in dirty None = false
dirty_in dirty (Some f) = dirty f

abbrev pub is_modified : State → ℕ → Bool
is_modified s x = dirty_in s.dirty (lie s x)

-- the object page that a page of a region stands for
abbrev pub page_in : Region → ℕ → ℕ
page_in r p = 256 * r.object + (r.offset + (p - r.first))

abbrev pub no_counts : Counts
no_counts = record { calls = 0; refused = 0; hits = 0; soft = 0; hard = 0; loads = 0; evicted = 0; stored = 0 }

-- a new memory: no region, no resident page, and in the backing store the starting words,
-- 256 × object + index for each page, which is the page's number
unfoldable pub no_pages : List (Option ℕ)
no_pages = replicate 2048 None

unfoldable pub no_frames : List ℕ
no_frames = replicate 256 0

unfoldable pub starting_words : List ℕ
starting_words = range_with_len 0 2048

abbrev pub fresh : ℕ → State
fresh n = record {
  frames = n;
  regions = [];
  lies = no_pages;
  owners = no_frames;
  queue = [];
  words = no_frames;
  store = starting_words;
  wired = [];
  dirty = λ _. false;
  counts = no_counts;
}

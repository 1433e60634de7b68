-- What the calls of the x86-64 board keep true of its words, from clear on. Assumes nothing.
use Rattle.std.specs.Prelude.{◌≡◌, ℕ, ◌+◌, ◌-◌, ◌*◌, ◌/◌, ◌%◌, ◌<◌, ◌≤◌, Bool, ◌&&◌, ◌⊎◌, length}
use Rattle.pmap.specs.Tally.{tally}
use Rattle.x86_words.specs.Words.{wired as is_wired}
use Rattle.x86_words.specs.State.{State, word_at, is_leaf}

-- a word points down to table t: its low bits are 7, and the accessed bit may be on
pub record Points (w t : ℕ) : Type 0 where
  pub is : w - w / 32 % 2 * 32 ≡ (256 + t) * 4096 + 7

-- a word of a leaf in use: present and for the user, with a frame; writable, accessed, dirty and wired may be on
pub record Mapped (w : ℕ) : Type 0 where
  pub frame : ℕ
  pub wired : ℕ
  pub dirty : ℕ
  pub accessed : ℕ
  pub writable : ℕ
  pub frame_low : frame < 256
  pub wired_low : wired < 2
  pub dirty_low : dirty < 2
  pub accessed_low : accessed < 2
  pub writable_low : writable < 2
  pub is : w ≡ frame * 4096 + wired * 512 + dirty * 64 + accessed * 32 + writable * 2 + 5

-- a directory word points to a leaf
pub record Leads (w : ℕ) : Type 0 where
  pub leaf : ℕ
  pub low : 6 ≤ leaf
  pub high : leaf ≤ 15
  pub points : Points w leaf

-- some directory word points to table t
pub record Owner (st : State) (t : ℕ) : Type 0 where
  pub at : ℕ
  pub low : 1024 ≤ at
  pub high : at < 3072
  pub points : Points (word_at st at) t

-- the leaf words that are wired
abbrev pub wired_leaf : State → ℕ → Bool
wired_leaf st k = is_leaf k && is_wired (word_at st k)

pub record Kept (st : State) : Type 0 where
  pub size : length st.words ≡ 8192
  pub marked : length st.marks ≡ 256
  pub next_low : 6 ≤ st.next
  pub next_high : st.next ≤ 15
  -- PML4 entry 0 points to the PDPT, PDPT entry s to the directory of space s, and all else in both tables is zero
  pub root : Points (word_at st 0) 1
  pub entries : (s : ℕ) → s < 4 → Points (word_at st (512 + s)) (2 + s)
  pub blank : (k : ℕ) → 0 < k → k < 1024 → (512 ≤ k → k < 516 → ⊥) → word_at st k ≡ 0
  -- a directory word is zero or points to a leaf, and no two point to the same
  pub directories : (k : ℕ) → 1024 ≤ k → k < 3072 → (word_at st k ≡ 0) ⊎ Leads (word_at st k)
  pub single : (j k t : ℕ) → 1024 ≤ j → j < 3072 → 1024 ≤ k → k < 3072 → Points (word_at st j) t → Points (word_at st k) t → j ≡ k
  -- a leaf word is zero, or it holds a mapping and a directory word points to its leaf
  pub leaves : (k : ℕ) → 3072 ≤ k → k < 8192 → (word_at st k ≡ 0) ⊎ (Mapped (word_at st k) × Owner st (k / 512))
  -- at most eight leaf words are wired
  pub few : tally (wired_leaf st) 8192 ≤ 8

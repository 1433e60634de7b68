-- What the calls of a hashed page table keep from clear on. Assumes nothing.
use Rattle.std.specs.Prelude.{◌≡◌, ℕ, ◌+◌, ◌*◌, ◌/◌, ◌<◌, ◌≤◌, Bool, false, ◌⊎◌, length}
use Rattle.pmap.specs.Tally.{tally}
use Rattle.powerpc_words.specs.Hashing.{group, entry_word}
use Rattle.powerpc_words.specs.State.{State, first, second, wired_at}

-- slot k has the first word of a place, in the place's primary or secondary group
pub record At (st : State) (s p : ℕ) (side : Bool) (k : ℕ) : Type 0 where
  pub below : k < 8192
  pub space : s < 4
  pub page : p < 262144
  pub group : k / 8 ≡ group s p side
  pub word : first st k ≡ entry_word s p side

-- an unused slot: both words zero, the wired mark off
pub record Unused (st : State) (k : ℕ) : Type 0 where
  pub first : first st k ≡ 0
  pub second : second st k ≡ 0
  pub wired : wired_at st k ≡ false

-- the second word of a slot in use: frame, R, C and PP, all else zero
pub record Shaped (w : ℕ) : Type 0 where
  pub frame : ℕ
  pub r : ℕ
  pub c : ℕ
  pub pp : ℕ
  pub frame_below : frame < 256
  pub r_below : r < 2
  pub c_below : c < 2
  pub pp_is : (pp ≡ 2) ⊎ (pp ≡ 3)
  pub word : w ≡ frame * 4096 + r * 256 + c * 128 + pp

-- a slot in use: it has the first word of a place, and a second word with a frame below 256
pub record Used (st : State) (k : ℕ) : Type 0 where
  pub space : ℕ
  pub page : ℕ
  pub side : Bool
  pub at : At st space page side k
  pub shape : Shaped (second st k)

pub record Kept (st : State) : Type 0 where
  pub words : length st.words ≡ 16384
  pub marks : length st.marks ≡ 256
  pub wired : length st.wired ≡ 8192
  pub next : st.next < 8
  pub slot : (k : ℕ) → k < 8192 → Unused st k ⊎ Used st k
  -- no place stands in two slots
  pub single : (space page : ℕ) (g h : Bool) (j k : ℕ) → At st space page g j → At st space page h k → j ≡ k
  -- at most eight slots are wired
  pub few : tally (wired_at st) 8192 ≤ 8

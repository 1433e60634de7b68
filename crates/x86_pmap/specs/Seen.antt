-- What the hardware is to find where the pmap holds a mapping, and which bits it sets at a hit. Assumes nothing.
use Rattle.std.specs.Prelude.{◌≡◌, ℕ, Bool, true, cond, ◌||◌, List, Some, None, Ok, Err, Option, Result, ◌==◌, slice_index}
use Rattle.refusal.specs.declared.pmap.PmapRefusal.{PmapRefusal}
use Rattle.pmap.specs.declared.access.Access.{Access}
use Rattle.pmap.specs.declared.access.Access.TheVariants.{Hit, Miss}
use Rattle.pmap.specs.Meaning.{Mapping, View}
use Rattle.pmap.specs.Ranges.{fits_place}
use Rattle.x86_words.specs.declared.walk.Walk.{Walk}
use Rattle.x86_words.specs.Words.{touched, hit_word}
use Rattle.x86_words.specs.Walks.{walk}

-- the frame of a mapping as a physical page, writable under protection 3; nothing where nothing is held
abbrev pub seen : Option Mapping → Option (ℕ × Bool)
seen None = None
seen (Some m) = Some (m.0, (m.1 == 3))

-- at every place, the hardware's answer is the mapping that is held
abbrev pub Sees : View → ℕ → ℕ → Option (ℕ × Bool) → Type 0
Sees v s p r = fits_place s p ≡ true → r ≡ seen (v.held s p)

-- the word at a position after a hit: the hardware sets the accessed bit of the four words that its walk met, at a write
-- the dirty bit of the leaf's too, and nothing else
abbrev pub hit_bits : List ℕ → Option Walk → Bool → ℕ → ℕ
hit_bits words None write k = slice_index words k
hit_bits words (Some w) write k =
    cond (k == w.leaf) (hit_word write (slice_index words k))
    (cond (k == w.root || (k == w.entry || k == w.directory)) (touched (slice_index words k)) (slice_index words k))

abbrev pub Sets : List ℕ → List ℕ → ℕ → Bool → Access → Type 0
Sets before after v write (Hit f) = (k : ℕ) → slice_index after k ≡ hit_bits before (walk before v) write k
Sets before after v write Miss = after ≡ before

abbrev pub SetsBits : List ℕ → List ℕ → ℕ → Bool → Result Access PmapRefusal → Type 0
SetsBits before after v write (Ok a) = Sets before after v write a
SetsBits before after v write (Err e) = after ≡ before

-- What a hashed page table holds as a pmap. Assumes nothing.
-- At a place it holds what the hardware's lookup finds there; a frame is modified if its mark or the C bit of one of its slots is on.
use Rattle.std.specs.Prelude.{ℕ, cond, None, Option}
use Rattle.pmap.specs.Meaning.{Mapping, View}
use Rattle.pmap.specs.Ranges.{fits_place}
use Rattle.powerpc_words.specs.State.{State}
use Rattle.powerpc_words.specs.Changes.{modified_in}
use Rattle.powerpc_words.specs.Answers.{holds}

abbrev pub held_at : State → ℕ → ℕ → Option Mapping
held_at st space page = cond (fits_place space page) (holds st space page) None

unfoldable pub view_of : State → View
view_of st = record { held = held_at st; modified = modified_in st }

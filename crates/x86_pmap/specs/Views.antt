-- What the x86-64 board holds as a pmap: what the hardware's walk finds in its words, and which frames are modified.
-- Assumes nothing.
use Rattle.std.specs.Prelude.{cond, None}
use Rattle.pmap.specs.Meaning.{View}
use Rattle.pmap.specs.Ranges.{fits_place}
use Rattle.x86_words.specs.State.{State, found, modified_in}

abbrev pub view_of : State → View
view_of st = record { held = λ s p. cond (fits_place s p) (found st s p) None; modified = modified_in st }

-- What the calls of the x86-64 board answer, refusals included. Assumes nothing.
use Rattle.std.specs.Prelude.{ℕ, Bool, cond, ◌&&◌, Ok, Err, Result}
use Rattle.refusal.specs.declared.pmap.PmapRefusal.{PmapRefusal}
use Rattle.refusal.specs.declared.pmap.PmapRefusal.TheVariants.{Range, WiredFull}
use Rattle.pmap.specs.Ranges.{fits_place, fits_frame, fits_entry}
use Rattle.x86_words.specs.Words.{leaf_word}
use Rattle.x86_words.specs.State.{State, installed, crowded}

-- a call that names a place, or a frame: refused where it is out of range, and then nothing changes
abbrev pub at_place : {U : Type 0} → ℕ → ℕ → U → Result U PmapRefusal
at_place s p answer = cond (fits_place s p) (Ok answer) (Err Range)

abbrev pub placed : ℕ → ℕ → State → State → State
placed s p after before = cond (fits_place s p) after before

abbrev pub at_frame : {U : Type 0} → ℕ → U → Result U PmapRefusal
at_frame f answer = cond (fits_frame f) (Ok answer) (Err Range)

abbrev pub framed : ℕ → State → State → State
framed f after before = cond (fits_frame f) after before

-- enter: refused where a number is out of range, or where it is wired and eight other places are
abbrev pub enter_answer : {U : Type 0} → State → ℕ → ℕ → ℕ → ℕ → Bool → U → Result U PmapRefusal
enter_answer st s p f q on done =
    cond (fits_entry s p f q) (cond (on && crowded st s p) (Err WiredFull) (Ok done)) (Err Range)

abbrev pub entered : State → ℕ → ℕ → ℕ → ℕ → Bool → State
entered st s p f q on =
    cond (fits_entry s p f q) (cond (on && crowded st s p) st (installed st s p (leaf_word f q on))) st

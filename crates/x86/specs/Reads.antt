-- The state that a board holds. Assumes nothing.
use Rattle.std.specs.Prelude.{vec_items}
use Rattle.x86.specs.declared.board.Board.{Board}
use Rattle.x86_words.specs.State.{State}

abbrev pub state : Board → State
state b = record { words = vec_items b.words; marks = vec_items b.marks; next = b.next.number }

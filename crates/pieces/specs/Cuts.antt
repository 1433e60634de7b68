-- A text cut into pieces: lines between newlines, words between blanks. Assumes nothing of the bytes.
use Rattle.std.specs.Prelude.{ℕ, Bool, cond, ◌||◌, List, [], ◌∷◌, ◌++◌, length, drop, Some, None, Option, ◌==◌, nat_le}
use Rattle.pieces.specs.declared.cut.Cut.{Cut}
use Rattle.pieces.specs.declared.cut.Cut.TheVariants.{Lines, Words}

-- the bytes at which a text is cut: a newline; a space, a tab and a carriage return
abbrev pub cuts : Cut → ℕ → Bool
cuts Lines c = c == 10
cuts Words c = c == 32 || (c == 9 || c == 13)

-- the piece so far goes on until the text is cut; each cut begins the next piece
unfoldable pub pieces_from : Cut → List ℕ → List ℕ → List (List ℕ)
pieces_from cut piece [] = piece ∷ []
pieces_from cut piece (c ∷ cs) = cond (cuts cut c) (piece ∷ pieces_from cut [] cs) (pieces_from cut (piece ++ (c ∷ [])) cs)

abbrev pub pieces : Cut → List ℕ → List (List ℕ)
pieces cut text = pieces_from cut [] text

-- the pieces from a place on: none past the end, and at the end the last one, which is empty
abbrev pub pieces_at : Cut → List ℕ → ℕ → List (List ℕ)
pieces_at cut text at = cond (nat_le at (length text)) (pieces cut (drop at text)) []

-- the pieces that are not empty
unfoldable pub solid : List (List ℕ) → List (List ℕ)
solid [] = []
solid ([] ∷ ps) = solid ps
solid ((c ∷ cs) ∷ ps) = (c ∷ cs) ∷ solid ps

-- the words of a text from a place on
abbrev pub words_at : List ℕ → ℕ → List (List ℕ)
words_at text at = solid (pieces_at Words text at)

-- a list by its first element, if it has one, and the rest
abbrev pub begun : Option (List ℕ) → List (List ℕ) → List (List ℕ)
begun None rest = []
begun (Some p) rest = p ∷ rest

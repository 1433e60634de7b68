-- What every board's table words keep: the frame of each second word is below 256. Assumes nothing.
use Rattle.std.specs.Prelude.{ℕ, ◌+◌, ◌*◌, ◌<◌, List, slice_index}

abbrev pub Framed : List ℕ → Type 0
Framed words = (k : ℕ) → slice_index words (2 * k + 1) < 1048576

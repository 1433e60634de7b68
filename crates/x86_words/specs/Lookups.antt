-- What the hardware finds for a linear page in the table words alone, as the maker's manual has it: the physical page and
-- whether it may be written, or nothing where a word on the way is not present. Assumes nothing.
use Rattle.std.specs.Prelude.{ℕ, ◌/◌, Bool, cond, List, Some, None, Option, slice_index}
use Rattle.x86_words.specs.Words.{present, writable}
use Rattle.x86_words.specs.Walks.{walk}
use Rattle.x86_words.specs.State.{reached}

abbrev pub translation : ℕ → Option (ℕ × Bool)
translation w = cond (present w) (Some (w / 4096, writable w)) None

abbrev pub lookup : List ℕ → ℕ → Option (ℕ × Bool)
lookup words v = reached (walk words v) None (λ w. translation (slice_index words w.leaf))

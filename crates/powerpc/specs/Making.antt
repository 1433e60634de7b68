-- What the making of a board answers. Assumes nothing.
-- Table memory of another length than 16,384 words is refused, and the memory comes back untouched; want of memory for the marks likewise.
use Rattle.std.specs.Prelude.{ℕ, Vec, vec_len, ◌==◌}
use Rattle.std.specs.declared.alloc.Global.{Global}
use Rattle.refusal.specs.declared.making.NotMade.{NotMade}
use Rattle.refusal.specs.Making.{GivenBack}

abbrev pub Unmade : Vec ℕ Global → NotMade (Vec ℕ Global) → Type 0
Unmade words = GivenBack (vec_len words == 16384) words

-- What the making of a board answers. Assumes nothing.
use Rattle.std.specs.Prelude.{◌≡◌, ℕ, ◌==◌, vec_len, Result, Vec, MatchResult}
use Rattle.std.specs.declared.alloc.Global.{Global}
use Rattle.refusal.specs.declared.making.NotMade.{NotMade}
use Rattle.refusal.specs.Making.{GivenBack}
use Rattle.x86.specs.declared.board.Board.{Board}
use Rattle.x86_words.specs.State.{started}
use Rattle.x86.specs.Reads.{state}

-- memory of 8,192 words is taken, unless the marks find no memory; any other is refused; what is not taken comes back
abbrev pub Returned : Vec ℕ Global → NotMade (Vec ℕ Global) → Type 0
Returned words = GivenBack (vec_len words == 8192) words

abbrev pub Made : Vec ℕ Global → Result Board (NotMade (Vec ℕ Global)) → Type 0
Made words r = MatchResult r (λ board. (state board ≡ started) × (vec_len words ≡ 8192)) (Returned words)

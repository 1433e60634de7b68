-- What a new memory is. Assumes nothing.
use Rattle.std.specs.Prelude.{◌≡◌, ℕ, Bool, true, ◌&&◌, nat_le}
use Rattle.pmap.specs.Meaning.{View, Cleared}
use Rattle.rules.specs.State.{State, fresh}
use Rattle.memory_meaning.specs.Ready.{Ready}

-- a memory has 1 to 256 frames
abbrev pub fits_frames : ℕ → Bool
fits_frames n = nat_le 1 n && nat_le n 256

-- the state of a new memory of n frames, and its pmap
pub record Made (n : ℕ) (v : View) (s : State) : Type 0 where
  pub fits : fits_frames n ≡ true
  pub cleared : Cleared v
  pub state : s ≡ fresh n
  pub ready : Ready v s

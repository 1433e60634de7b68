-- What a run on a machine shows: its replies and its counts. Assumes nothing.
use Rattle.std.specs.Prelude.{◌≡◌, ℕ, List, vec_items}
use Rattle.calls.specs.declared.Call.{Call}
use Rattle.rules.specs.State.{State}
use Rattle.runs.specs.RunLaw.{RunLaw}
use Rattle.machines.specs.declared.machine.Seen.{Seen}

-- the replies are those of a run of the calls on a new memory, which keeps the law, and the counts are those at its end
pub record Shows (frames : ℕ) (calls : List Call) (x : Seen) : Type 0 where
  pub last : State
  pub law : RunLaw frames calls (vec_items x.replies) last
  pub counts : x.counts ≡ last.counts

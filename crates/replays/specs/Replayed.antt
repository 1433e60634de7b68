-- What the block of a replay promises. Assumes nothing.
use Rattle.std.specs.Prelude.{◌≡◌, ℕ, List}
use Rattle.trace.specs.declared.record.Entry.{Entry}
use Rattle.rules.specs.State.{State}
use Rattle.rules.specs.Rules.{Reply}
use Rattle.runs.specs.RunLaw.{RunLaw}
use Rattle.replays.specs.Selected.{calls_in}
use Rattle.replays.specs.Blocks.{block_of}

-- the text is that of a run of the trace's calls on a new memory of its frame count, and the run keeps the law
pub record Replayed (frames : ℕ) (entries : List Entry) (name text : List ℕ) : Type 0 where
  pub replies : List Reply
  pub last : State
  pub law : RunLaw frames (calls_in entries) replies last
  pub shown : text ≡ block_of name entries replies last

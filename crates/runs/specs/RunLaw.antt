-- What a run of calls on a new memory promises. Assumes nothing.
use Rattle.std.specs.Prelude.{◌≡◌, ℕ, List, reverse}
use Rattle.calls.specs.declared.Call.{Call}
use Rattle.rules.specs.State.{State}
use Rattle.rules.specs.Rules.{Reply}
use Rattle.rules.specs.History.{Moment, Passed}
use Rattle.rules.specs.Laws.{Lawful, Agree, calls_of, replies_of}

-- a history of a new memory of n frames, the latest moment first, with these calls and replies, that led to the state
pub record Trail (n : ℕ) (calls : List Call) (replies : List Reply) (last : State) : Type 0 where
  pub history : List Moment
  pub passed : Passed n history last
  pub asked : calls_of history ≡ reverse calls
  pub told : replies_of history ≡ reverse replies

-- the law of a run: after each of its calls, reads give the last word written and syncs have stored it, the modified pages are the
-- unsaved ones, the counts add up, and wired places hit; and the run agrees, after each call, with every history of a
-- memory of as many frames over any pmap that was given the same calls
pub record RunLaw (n : ℕ) (calls : List Call) (replies : List Reply) (last : State) : Type 0 where
  pub trail : Trail n calls replies last
  pub lawful : Lawful trail.history
  pub agrees : (other : List Moment) (end : State) → Passed n other end → calls_of other ≡ calls_of trail.history → Agree trail.history other

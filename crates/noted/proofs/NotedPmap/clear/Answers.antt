use Rattle.noted.proofs.Cleared.{all_off}
use Rattle.noted.proofs.NotedPmap.clear.Goals as goal

pub invariant_of-self : goal.invariant_of-self
invariant_of-self g c = record { told = all_off _ c.clear.ensures.meaning }

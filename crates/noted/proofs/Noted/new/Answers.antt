use Rattle.noted.proofs.Cleared.{all_off}
use Rattle.noted.proofs.Noted.new.Goals as goal

pub invariant_of-result : goal.invariant_of-result
invariant_of-result g c = record { told = all_off _ c.clear.ensures.meaning }

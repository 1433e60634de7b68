use Rattle.std.proofs.Common.{rules}
use Rattle.std.proofs.Output.{has_written_append}
use Rattle.calls.proofs.words.CallDisplay.fmt.Goals as goal

pub returns-in-Map-clause-writes : goal.returns-in-Map-clause-writes
returns-in-Map-clause-writes g c = rw c.in-Map.is (λ plain ok. has_written_append _ _ _ _ _ _ (rw (c.operation.ensures, c.in-Map.is) at c.in_ok-write.ensures.writes plain (search rules)) (search rules))

use Rattle.std.proofs.Common.{refl}
use Rattle.minimal.proofs.Losses.{nothing_due_is_lost}
use Rattle.minimal.proofs.law.nothing_due_is_lost.Goals as goal

pub returns : goal.returns
returns c = record { answer = refl; law = nothing_due_is_lost }

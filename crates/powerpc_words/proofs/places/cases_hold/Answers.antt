use Rattle.std.proofs.Common.{refl}
use Rattle.powerpc_words.specs.Fields.{touched}
use Rattle.powerpc_words.specs.Hashing.{vsid, hash, group, entry_word}
use Rattle.powerpc_words.specs.Cases.{Cases}
use Rattle.powerpc_words.proofs.places.cases_hold.Goals as goal

-- each case computes
cases : Cases
unfolding vsid hash group entry_word touched
cases = (refl, refl, refl, refl, refl, refl, refl, refl)

pub returns : goal.returns
returns c = record { answer = refl; cases = cases }

use Rattle.std.proofs.Common.{refl}
use Rattle.x86_words.specs.Words.{leaf_word, put_on}
use Rattle.powerpc_words.specs.Fields.{touched}
use Rattle.powerpc_words.specs.Hashing.{vsid, hash, group, entry_word}
use Rattle.trace.specs.Format.{encoded, content_at}
use Rattle.rules.specs.Lists.{first, any, without, changed}
use Rattle.rules.specs.State.{no_pages, no_frames, starting_words}
use Rattle.cases.specs.Worked.{WorkedCases, numbers, wires}
use Rattle.cases.proofs.worked_cases_hold.Goals as goal

-- each case computes
cases : WorkedCases
unfolding leaf_word put_on touched vsid hash group entry_word encoded content_at numbers wires first any without changed no_pages no_frames starting_words
cases = (refl, refl, refl, refl, refl, refl, refl, refl, refl, refl, refl, refl, refl, refl, refl, refl, refl, refl, refl, refl, refl, refl, refl)

pub returns : goal.returns
returns c = record { answer = refl; cases = cases }

use Rattle.std.proofs.Common.{refl}
use Rattle.std.proofs.lemmas.Iterator.{items_from_collect, YieldsList-from_range}
use Rattle.rules.specs.State.{starting_words}
use Rattle.tables.proofs.making.starting_words.Goals as goal

pub returns-clause-items : goal.returns-clause-items
unfolding starting_words
returns-clause-items c = items_from_collect _ c.collect.ensures.ran (YieldsList-from_range 0 2048 2048 refl refl)

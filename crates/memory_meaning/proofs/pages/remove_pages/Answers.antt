use Rattle.std.proofs.Common.{rules}
use Rattle.memory_meaning.specs.Ranges.{nothing}
use Rattle.memory_meaning.proofs.pages.remove_pages.Goals as goal

pub returns-clause-removed : goal.returns-clause-removed
returns-clause-removed g c = c.change_pages.ensures.changed nothing (λ y z page r kept met. search rules)

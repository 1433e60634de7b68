use Rattle.std.proofs.Common.{rules}
use Rattle.pmap.specs.Meaning.{lowered}
use Rattle.memory_meaning.proofs.pages.lower_pages.Goals as goal

pub returns-clause-lowered : goal.returns-clause-lowered
returns-clause-lowered g c = c.change_pages.ensures.changed lowered (λ y z page r kept met. search rules)

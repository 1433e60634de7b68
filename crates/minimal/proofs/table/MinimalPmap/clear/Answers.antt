use Rattle.std.proofs.Common.{false, replicate, sym, subst}
use Rattle.pmap.specs.Meaning.{Cleared}
use Rattle.minimal.specs.Entries.{shown}
use Rattle.minimal.proofs.Wired.{cleared}
use Rattle.minimal.proofs.table.MinimalPmap.clear.Goals as goal

pub returns-clause-meaning : goal.returns-clause-meaning
returns-clause-meaning c = subst (λ xs. Cleared (shown xs (replicate 256 false))) (sym c.new-self.ensures) cleared

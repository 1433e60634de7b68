use Rattle.std.proofs.Common.{false, replicate, sym, subst}
use Rattle.pmap.specs.Meaning.{Cleared}
use Rattle.minimal.specs.Entries.{shown}
use Rattle.minimal.proofs.Wired.{cleared}
use Rattle.minimal.proofs.table.Minimal.new.Goals as goal

pub returns : goal.returns
returns c = subst (λ xs. Cleared (shown xs (replicate 256 false))) (sym c.new.ensures) cleared

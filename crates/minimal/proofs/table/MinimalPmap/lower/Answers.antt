use Rattle.minimal.proofs.Calls.{lowers}
use Rattle.minimal.proofs.table.MinimalPmap.lower.Goals as goal

pub returns-clause-meaning : goal.returns-clause-meaning
returns-clause-meaning c =
    let t = c.args.self.now in
    let at = c.in_ok-new.ensures in
    let is = c.lower-self.ensures in
    (at.0, lowers t.slots.list t.slots.sound c.args.space c.args.page t.marks _ cc)

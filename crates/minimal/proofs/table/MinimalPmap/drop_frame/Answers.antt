use Rattle.minimal.proofs.Calls.{drops}
use Rattle.minimal.proofs.table.MinimalPmap.drop_frame.Goals as goal

pub returns-clause-meaning : goal.returns-clause-meaning
returns-clause-meaning c =
    let t = c.args.self.now in
    let of = c.in_ok-new.ensures in
    let is = c.drop_frame-self.ensures in
    (of.0, drops t.slots.list t.slots.sound c.args.frame t.marks _ cc)

use Rattle.minimal.specs.Entries.{entry_of}
use Rattle.minimal.proofs.Calls.{puts, only_wired}
use Rattle.minimal.proofs.table.Minimal.put.Goals as goal

pub returns : goal.returns
returns c =
    let t = c.args.self.now in
    record {
      meaning = puts t.slots.list t.slots.sound c.args.at (entry_of c.args.entry) c.requires t.marks _ c.put-self.ensures;
      only = only_wired t.slots.list t.slots.sound c.args.at (entry_of c.args.entry) c.requires t.marks _ c.put-self.ensures;
    }

use Rattle.minimal.specs.Entries.{entry_of}
use Rattle.minimal.proofs.Wired.{wired_room, latest_room}
use Rattle.minimal.proofs.slots.Slots.room_for.Goals as goal

pub returns-then-entry : goal.returns-then-entry
returns-then-entry c =
    let a = wired_room c.args.self.now.list (entry_of c.args.entry) c.args.self.now.sound c.args.entry.frame.fits c.find_room.result c.if-entry.true c.find_room.ensures in
    record { room = a.0; full = a.1 }

pub returns-else-entry : goal.returns-else-entry
returns-else-entry c =
    let a = latest_room c.args.self.now.list (entry_of c.args.entry) c.args.self.now.sound c.args.entry.frame.fits c.if-entry.false in
    record { room = a.0; full = a.1 }

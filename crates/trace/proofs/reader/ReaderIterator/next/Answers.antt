use Rattle.std.proofs.Common.{rules}
use Rattle.trace.proofs.Left.{step_left}
use Rattle.trace.proofs.reader.ReaderIterator.next.Goals as goal

pub returns-clause-steps : goal.returns-clause-steps
returns-clause-steps c = step_left c.args.self.now c.next_entry.new.self c.next_entry.result c.next_entry.ensures.answer c.next_entry.ensures.moved c.next_entry.ensures.bytes

pub returns-clause-goes : goal.returns-clause-goes
returns-clause-goes c =
    let step = step_left c.args.self.now c.next_entry.new.self c.next_entry.result c.next_entry.ensures.answer c.next_entry.ensures.moved c.next_entry.ensures.bytes in
    search (rules, step)

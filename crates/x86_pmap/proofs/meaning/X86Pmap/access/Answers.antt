use Rattle.x86.specs.Reads.{state}
use Rattle.x86_pmap.proofs.Hardware.{access_sets}
use Rattle.x86_pmap.proofs.Meanings.{accesses}
use Rattle.x86_pmap.proofs.meaning.X86Pmap.access.Goals as goal

pub returns : goal.returns
returns c =
    let m = accesses (state c.args.self.now.board) (state c.access.new.self) c.requires c.args.space c.args.page c.args.write c.access.result c.access.ensures.answer c.access.ensures.after in
    record { meaning = m.0; kept = m.1; hardware = access_sets (state c.args.self.now.board) (state c.access.new.self) c.requires c.args.space c.args.page c.args.write c.access.result c.access.ensures.answer c.access.ensures.after }

use Rattle.x86.specs.Reads.{state}
use Rattle.x86_pmap.proofs.Meanings.{removes}
use Rattle.x86_pmap.proofs.meaning.X86Pmap.remove.Goals as goal

pub returns : goal.returns
returns c =
    let m = removes (state c.args.self.now.board) (state c.remove.new.self) c.requires c.args.space c.args.page tt c.remove.result c.remove.ensures.answer c.remove.ensures.after in
    record { meaning = m.0; kept = m.1 }

use Rattle.x86.specs.Reads.{state}
use Rattle.x86_pmap.proofs.Meanings.{lowers}
use Rattle.x86_pmap.proofs.meaning.X86Pmap.lower.Goals as goal

pub returns : goal.returns
returns c =
    let m = lowers (state c.args.self.now.board) (state c.lower.new.self) c.requires c.args.space c.args.page tt c.lower.result c.lower.ensures.answer c.lower.ensures.after in
    record { meaning = m.0; kept = m.1 }

use Rattle.x86.specs.Reads.{state}
use Rattle.x86_pmap.proofs.Meanings.{unwires}
use Rattle.x86_pmap.proofs.meaning.X86Pmap.unwire.Goals as goal

pub returns : goal.returns
returns c =
    let m = unwires (state c.args.self.now.board) (state c.unwire.new.self) c.requires c.args.space c.args.page tt c.unwire.result c.unwire.ensures.answer c.unwire.ensures.after in
    record { meaning = m.0; kept = m.1 }

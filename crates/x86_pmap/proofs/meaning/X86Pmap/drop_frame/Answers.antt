use Rattle.x86.specs.Reads.{state}
use Rattle.x86_pmap.proofs.Meanings.{drops}
use Rattle.x86_pmap.proofs.meaning.X86Pmap.drop_frame.Goals as goal

pub returns : goal.returns
returns c =
    let m = drops (state c.args.self.now.board) (state c.drop_frame.new.self) c.requires c.args.frame tt c.drop_frame.result c.drop_frame.ensures.answer c.drop_frame.ensures.after in
    record { meaning = m.0; kept = m.1 }

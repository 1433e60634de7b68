use Rattle.x86.specs.Reads.{state}
use Rattle.x86_pmap.proofs.Meanings.{enters}
use Rattle.x86_pmap.proofs.meaning.X86Pmap.enter.Goals as goal

pub returns : goal.returns
returns c =
    let m = enters (state c.args.self.now.board) (state c.enter.new.self) c.requires c.args.space c.args.page c.args.frame c.args.protection c.args.wired tt c.enter.result c.enter.ensures.answer c.enter.ensures.after in
    record { meaning = m.0; kept = m.1 }

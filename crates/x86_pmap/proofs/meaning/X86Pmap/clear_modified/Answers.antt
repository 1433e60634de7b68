use Rattle.x86.specs.Reads.{state}
use Rattle.x86_pmap.proofs.Meanings.{unmarks}
use Rattle.x86_pmap.proofs.meaning.X86Pmap.clear_modified.Goals as goal

pub returns : goal.returns
returns c =
    let m = unmarks (state c.args.self.now.board) (state c.clear_modified.new.self) c.requires c.args.frame tt c.clear_modified.result c.clear_modified.ensures.answer c.clear_modified.ensures.after in
    record { meaning = m.0; kept = m.1 }

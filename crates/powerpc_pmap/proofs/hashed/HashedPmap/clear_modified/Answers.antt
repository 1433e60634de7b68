use Rattle.powerpc.specs.Reads.{state}
use Rattle.powerpc_pmap.proofs.Means.{unmark_means}
use Rattle.powerpc_pmap.proofs.hashed.HashedPmap.clear_modified.Goals as goal

pub returns : goal.returns
returns c =
    let done = unmark_means (state c.args.self.now.board) (state c.clear_modified.new.self) c.clear_modified.result c.args.frame c.requires c.clear_modified.ensures.answer c.clear_modified.ensures.leaves in
    record { meaning = done.0; kept = done.1 }

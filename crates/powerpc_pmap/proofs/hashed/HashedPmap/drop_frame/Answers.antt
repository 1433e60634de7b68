use Rattle.powerpc.specs.Reads.{state}
use Rattle.powerpc_pmap.proofs.Means.{drop_means}
use Rattle.powerpc_pmap.proofs.hashed.HashedPmap.drop_frame.Goals as goal

pub returns : goal.returns
returns c =
    let done = drop_means (state c.args.self.now.board) (state c.drop_frame.new.self) c.drop_frame.result c.args.frame c.requires c.drop_frame.ensures.answer c.drop_frame.ensures.leaves in
    record { meaning = done.0; kept = done.1 }

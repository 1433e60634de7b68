use Rattle.powerpc.specs.Reads.{state}
use Rattle.powerpc_pmap.proofs.Means.{access_means}
use Rattle.powerpc_pmap.proofs.hashed.HashedPmap.access.Goals as goal

pub returns : goal.returns
returns c =
    let done = access_means (state c.args.self.now.board) (state c.access.new.self) c.access.result c.args.space c.args.page c.args.write c.requires c.access.ensures.answer c.access.ensures.leaves in
    record { meaning = done.0; kept = done.1 }

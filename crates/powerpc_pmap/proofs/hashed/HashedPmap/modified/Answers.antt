use Rattle.powerpc.specs.Reads.{state}
use Rattle.powerpc_pmap.proofs.Means.{modified_means}
use Rattle.powerpc_pmap.proofs.hashed.HashedPmap.modified.Goals as goal

pub returns : goal.returns
returns c = modified_means (state c.args.self.now.board) c.modified.result c.args.frame c.requires c.modified.ensures

use Rattle.powerpc.specs.Reads.{state}
use Rattle.powerpc_pmap.proofs.Means.{find_means}
use Rattle.powerpc_pmap.proofs.hashed.HashedPmap.find.Goals as goal

pub returns : goal.returns
returns c = find_means (state c.args.self.now.board) c.find.result c.args.space c.args.page c.requires c.find.ensures

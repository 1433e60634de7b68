use Rattle.powerpc.specs.Reads.{state}
use Rattle.powerpc_pmap.proofs.Means.{remove_means}
use Rattle.powerpc_pmap.proofs.hashed.HashedPmap.remove.Goals as goal

pub returns : goal.returns
returns c =
    let done = remove_means (state c.args.self.now.board) (state c.remove.new.self) c.remove.result c.args.space c.args.page c.requires c.remove.ensures.answer c.remove.ensures.leaves in
    record { meaning = done.0; kept = done.1 }

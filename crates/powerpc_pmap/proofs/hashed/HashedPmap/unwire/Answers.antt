use Rattle.powerpc.specs.Reads.{state}
use Rattle.powerpc_pmap.proofs.Means.{unwire_means}
use Rattle.powerpc_pmap.proofs.hashed.HashedPmap.unwire.Goals as goal

pub returns : goal.returns
returns c =
    let done = unwire_means (state c.args.self.now.board) (state c.unwire.new.self) c.unwire.result c.args.space c.args.page c.requires c.unwire.ensures.answer c.unwire.ensures.leaves in
    record { meaning = done.0; kept = done.1 }

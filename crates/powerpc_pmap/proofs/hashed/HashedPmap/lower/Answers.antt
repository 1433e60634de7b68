use Rattle.powerpc.specs.Reads.{state}
use Rattle.powerpc_pmap.proofs.Means.{lower_means}
use Rattle.powerpc_pmap.proofs.hashed.HashedPmap.lower.Goals as goal

pub returns : goal.returns
returns c =
    let done = lower_means (state c.args.self.now.board) (state c.lower.new.self) c.lower.result c.args.space c.args.page c.requires c.lower.ensures.answer c.lower.ensures.leaves in
    record { meaning = done.0; kept = done.1 }

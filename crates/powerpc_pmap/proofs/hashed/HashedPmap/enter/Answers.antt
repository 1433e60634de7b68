use Rattle.powerpc.specs.Reads.{state}
use Rattle.powerpc_pmap.proofs.Means.{enter_means}
use Rattle.powerpc_pmap.proofs.hashed.HashedPmap.enter.Goals as goal

pub returns : goal.returns
returns c =
    let done = enter_means (state c.args.self.now.board) (state c.enter.new.self) c.enter.result c.args.space c.args.page c.args.frame c.args.protection c.args.wired c.requires c.enter.ensures.answer c.enter.ensures.leaves in
    record { meaning = done.0; kept = done.1 }

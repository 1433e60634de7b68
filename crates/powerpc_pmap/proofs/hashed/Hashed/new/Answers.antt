use Rattle.std.proofs.Common.{sym, subst}
use Rattle.powerpc_pmap.specs.Kept.{Kept}
use Rattle.powerpc_pmap.proofs.Means.{start_kept}
use Rattle.powerpc_pmap.proofs.hashed.Hashed.new.Goals as goal

pub returns : goal.returns
returns c =
    let made = c.in_ok-board.ensures in
    (made.0, made.1, subst Kept (sym made.1) start_kept)

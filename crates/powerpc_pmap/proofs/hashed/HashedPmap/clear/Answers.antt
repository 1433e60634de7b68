use Rattle.std.proofs.Common.{sym, subst}
use Rattle.pmap.specs.Meaning.{Cleared}
use Rattle.powerpc_pmap.specs.View.{view_of}
use Rattle.powerpc_pmap.specs.Kept.{Kept}
use Rattle.powerpc_pmap.proofs.Means.{start_clear, start_kept}
use Rattle.powerpc_pmap.proofs.hashed.HashedPmap.clear.Goals as goal

pub returns : goal.returns
returns c = record {
  meaning = subst (λ st. Cleared (view_of st)) (sym c.clear.ensures) start_clear;
  kept = subst Kept (sym c.clear.ensures) start_kept;
}

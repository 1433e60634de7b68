use Rattle.std.proofs.Common.{◌≤◌}
use Rattle.memory_meaning.specs.Storing.{StoresBelow}
use Rattle.memory_meaning.proofs.pages.store_pages.Given as goal

abbrev pub invariant-loop-x : goal.invariant-loop-x
invariant-loop-x g l =
    g.P.Pmap.kept l.pmap
    × StoresBelow (g.P.Pmap.view l.initial.pmap) (g.P.Pmap.view l.pmap) l.initial.store l.store l.words l.records l.object l.x l.stored
    × (l.stored ≤ l.x)

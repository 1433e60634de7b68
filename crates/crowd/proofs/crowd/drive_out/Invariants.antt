use Rattle.std.proofs.Common.{◌≡◌}
use Rattle.crowd.proofs.crowd.drive_out.Given as goal

abbrev pub invariant-loop-i : goal.invariant-loop-i
invariant-loop-i g l =
    g.P.Pmap.kept l.pmap
    × ((g.P.Pmap.view l.pmap).modified ≡ (g.P.Pmap.view l.initial.pmap).modified)

use Rattle.bench.proofs.timing.rate_of.Given as goal

abbrev pub invariant-loop-call : goal.invariant-loop-call
invariant-loop-call g l = g.P.Pmap.kept l.pmap

use Rattle.memory.proofs.Kept.{may_called, few_called, whole_called, state_called}
use Rattle.memory.proofs.memory.Memory.call.Goals as goal

pub returns-else-counts-lt-CALL_LIMIT-clause-may : goal.returns-else-counts-lt-CALL_LIMIT-clause-may
returns-else-counts-lt-CALL_LIMIT-clause-may g c = may_called g.P.Pmap.view g.P.Pmap.kept _ _ c.args.call c.self.invariant c.self.view_is

pub added-self-inside-requires : goal.added-self-inside-requires
added-self-inside-requires g c = (
  c.self.invariant.ready.bounded,
  (
    c.if-counts-lt-CALL_LIMIT.true,
    few_called g.P.Pmap.view g.P.Pmap.kept c.self.inside.parts c.args.self.now c.serve-reply.new.self c.args.call c.serve-reply.result c.self.invariant c.self.view_is c.if-counts-lt-CALL_LIMIT.true c.serve-reply.ensures,
  ),
)

pub invariant_of-self : goal.invariant_of-self
invariant_of-self g c =
    whole_called g.P.Pmap.view g.P.Pmap.kept _ _ _ _ _ c.self.invariant c.self.view_is c.if-counts-lt-CALL_LIMIT.true c.serve-reply.ensures
    c.self-then-counts-lt-CALL_LIMIT.inside.parts c.self-then-counts-lt-CALL_LIMIT.view_is c.added-self-inside.result c.added-self-inside.ensures c.self-then-counts-lt-CALL_LIMIT.invariant.kept

pub returns-then-counts-lt-CALL_LIMIT-clause-state : goal.returns-then-counts-lt-CALL_LIMIT-clause-state
returns-then-counts-lt-CALL_LIMIT-clause-state g c =
    state_called g.P.Pmap.view g.P.Pmap.kept _ _ _ _ _ c.self.invariant c.self.view_is c.if-counts-lt-CALL_LIMIT.true c.serve-reply.ensures
    c.self-then-counts-lt-CALL_LIMIT.inside.parts c.self-then-counts-lt-CALL_LIMIT.view_is c.added-self-inside.result c.added-self-inside.ensures

pub returns-then-counts-lt-CALL_LIMIT-clause-may : goal.returns-then-counts-lt-CALL_LIMIT-clause-may
returns-then-counts-lt-CALL_LIMIT-clause-may g c = may_called g.P.Pmap.view g.P.Pmap.kept _ _ c.args.call c.self.invariant c.self.view_is

pub returns-then-counts-lt-CALL_LIMIT-clause-whole : goal.returns-then-counts-lt-CALL_LIMIT-clause-whole
returns-then-counts-lt-CALL_LIMIT-clause-whole g c = invariant_of-self g c

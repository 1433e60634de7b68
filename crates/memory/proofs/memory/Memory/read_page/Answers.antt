use Rattle.std.proofs.Common.{false}
use Rattle.memory_meaning.proofs.AccessRules.{reached_low, read_served}
use Rattle.memory.specs.Whole.{seen, state}
use Rattle.memory.proofs.Kept.{whole_served}
use Rattle.memory.proofs.memory.Memory.read_page.Goals as goal

pub word-word-requires : goal.word-word-requires
word-word-requires g c =
    let v = g.P.Pmap.view in
    let m = c.self.inside.parts in
    let e = c.reach.new.self in
    let r = c.in_ok-reached.ensures.reaches in
    reached_low (v m.pmap) (v e.pmap) (state v m) (state v e) c.args.space c.args.page c.in_ok-reached.reached.frame false c.in_ok-reached.reached.report c.self.invariant.ready.good r.0 r.1

pub returns-clause-serves : goal.returns-clause-serves
returns-clause-serves g c =
    let v = g.P.Pmap.view in
    let m = c.self.inside.parts in
    let e = c.reach.new.self in
    let x = c.in_ok-reached.reached in
    let r = c.in_ok-reached.ensures.reaches in
    rw (← c.self.view_is) (read_served (seen v m) (seen v e) (state v m) (state v e) c.args.space c.args.page x.frame c.word-word.result x.report r.0 r.1 c.word-word.ensures)

pub invariant_of-self-2 : goal.invariant_of-self-2
invariant_of-self-2 g c = whole_served g.P.Pmap.view g.P.Pmap.kept _ _ _ _ _ c.self.invariant c.self.view_is (returns-clause-serves g c) c.in_ok-reached.ensures.kept

pub returns-clause-whole : goal.returns-clause-whole
returns-clause-whole g c = invariant_of-self-2 g c

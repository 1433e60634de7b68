use Rattle.std.proofs.Common.{true}
use Rattle.memory_meaning.specs.Ready.{memory_state}
use Rattle.memory_meaning.proofs.AccessRules.{reached_low, write_served}
use Rattle.memory.specs.Whole.{state}
use Rattle.memory.proofs.Kept.{whole_served}
use Rattle.memory.proofs.memory.Memory.write_page.Goals as goal

pub write_word-requires : goal.write_word-requires
write_word-requires g c =
    let v = g.P.Pmap.view in
    let m = c.self.inside.parts in
    let e = c.reach.new.self in
    let r = c.in_ok-reached.ensures.reaches in
    reached_low (v m.pmap) (v e.pmap) (state v m) (state v e) c.args.space c.args.page c.in_ok-reached.reached.frame true c.in_ok-reached.reached.report c.self.invariant.ready.good r.0 r.1

pub returns-clause-serves : goal.returns-clause-serves
returns-clause-serves g c =
    let v = g.P.Pmap.view in
    let m = c.self.inside.parts in
    let e = c.reach.new.self in
    let r = c.in_ok-reached.ensures.reaches in
    rw (← c.self.view_is) (write_served (v m.pmap) (v e.pmap) (state v m) (state v e) c.args.space c.args.page
    (memory_state (v e.pmap) c.write_word.new.self e.counts) c.in_ok-reached.reached.frame c.args.word c.in_ok-reached.reached.report r.0 r.1 (c.write_word.ensures (v e.pmap).modified e.counts))

pub invariant_of-self-2 : goal.invariant_of-self-2
invariant_of-self-2 g c = whole_served g.P.Pmap.view g.P.Pmap.kept _ _ _ _ _ c.self.invariant c.self.view_is (returns-clause-serves g c) c.in_ok-reached.ensures.kept

pub returns-clause-whole : goal.returns-clause-whole
returns-clause-whole g c = invariant_of-self-2 g c

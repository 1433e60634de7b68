use Rattle.std.proofs.Common.{sym, refl, ◌∙◌}
use Rattle.memory_meaning.specs.Ready.{memory_state}
use Rattle.memory_meaning.proofs.Serving.{unwire_served}
use Rattle.memory.specs.Whole.{state}
use Rattle.memory.proofs.Kept.{whole_served}
use Rattle.memory.proofs.memory.Memory.unwire_place.Goals as goal

pub returns : goal.returns
returns g c =
    let v = g.P.Pmap.view in
    let m = c.self.inside.parts in
    let w = v c.unwire.new.self in
    let done = c.in_ok-unwire.ensures in
    rw (← c.self.view_is) (unwire_served (v m.pmap) w (state v m) c.args.space c.args.page
    (memory_state w c.remove_wired.new.self m.counts)
    done.meaning.0 (sym c.is_wired.ensures ∙ c.if-not-is_wired.false) done.meaning.1 refl
    (c.remove_wired.ensures w.modified m.counts))

pub invariant_of-self-2 : goal.invariant_of-self-2
invariant_of-self-2 g c = whole_served g.P.Pmap.view g.P.Pmap.kept _ _ _ _ _ c.self.invariant c.self.view_is (returns g c) c.in_ok-unwire.ensures.kept

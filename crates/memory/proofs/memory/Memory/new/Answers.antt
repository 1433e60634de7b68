use Rattle.std.proofs.Common.{sym, ap, ◌∙◌}
use Rattle.rules.specs.State.{no_counts}
use Rattle.tables.specs.Held.{state_of}
use Rattle.memory.proofs.New.{none_counted, made_new}
use Rattle.memory.proofs.memory.Memory.new.Goals as goal

pub returns : goal.returns
returns g c =
    let cleared = c.clear.ensures.meaning in
    let made = made_new c.args.frames _ _ (sym c.if-not-fits_frames.ensures) cleared
    (ap (λ n. state_of c.in-Ok.tables (g.P.Pmap.view c.clear.new.self).modified n) (none_counted c.default.result c.default.ensures) ∙ ap (λ d. state_of c.in-Ok.tables d no_counts) cleared.marks ∙ c.in-Ok.ensures) in
    (made, record { kept = c.clear.ensures.kept; ready = made.ready })

pub invariant_of-result : goal.invariant_of-result
invariant_of-result g c = (returns g c).1

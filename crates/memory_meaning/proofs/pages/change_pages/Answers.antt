use Rattle.std.proofs.Common.{◌≡◌, ◌+◌, ◌-◌, arith}
use Rattle.memory_meaning.proofs.Ranging.{over_none, over_more}
use Rattle.memory_meaning.proofs.pages.change_pages.Goals as goal

pub loop-page-init : goal.loop-page-init
loop-page-init g c = (c.requires.kept, λ to does. over_none to (g.P.Pmap.view c.args.pmap.now) c.args.space c.args.first (c.args.first - c.args.first) (omega arith))

pub loop-page-preserved : goal.loop-page-preserved
loop-page-preserved g c =
    let v = g.P.Pmap.view in
    let p = c.loop-page.page in
    let f = c.args.first in
    let step : p + 1 - f ≡ p - f + 1 = omega arith in (
      (c.requires.passes _ _ p _ c.loop-page.invariant.0 c.in_ok-change.ensures (omega arith)).1,
      λ to does. rw step (over_more to (v c.args.pmap.now) c.args.space f (v c.loop-page.pmap) (v c.change.new.arg2) (p - f) p
          (c.loop-page.invariant.1 to does) (omega arith) (does _ _ p _ c.loop-page.invariant.0 c.in_ok-change.ensures).1),
    )

pub returns-clause-changed : goal.returns-clause-changed
returns-clause-changed g c = λ to does. let all : c.loop-page.page - c.args.first ≡ c.args.count = omega arith in rw (← all) (c.loop-page.invariant.1 to does)

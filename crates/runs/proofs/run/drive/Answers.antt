use Rattle.std.proofs.Common.{◌+◌, ◌∷◌, ◌++◌, [], get_or, take, vec_items, sym, ap, ◌∙◌, subst, arith}
use Rattle.std.proofs.lemmas.List.{take_more, take_all}
use Rattle.calls.specs.declared.Call.TheVariants.{Map}
use Rattle.memory_meaning.specs.Ready.{hits}
use Rattle.memory.specs.Whole.{seen, state}
use Rattle.runs.specs.RunLaw.{Trail}
use Rattle.runs.proofs.Trails.{trail_more}
use Rattle.runs.proofs.run.drive.Goals as goal

pub loop-call-init : goal.loop-call-init
loop-call-init g c = (c.requires.begun, c.requires.empty, c.requires.room, c.requires.whole)

pub loop-call-preserved : goal.loop-call-preserved
loop-call-preserved g c =
    let v = g.P.Pmap.view in
    let m = c.loop-call.memory in
    let e = c.call-reply.new.self in
    let i = c.loop-call.call-index in
    let calls = c.args.calls.now in
    let call = get_or calls i (Map 0 0 0 0 0 0) in
    let told = c.call-reply.ensures in
    let more = trail_more c.args.frames (take i calls) (vec_items c.loop-call.replies) (state v m) (state v e) call c.call-reply.result (hits (seen v m) call) c.loop-call.invariant.0 told.may told.answer told.state in (
      subst (λ z. Trail c.args.frames z (vec_items c.push_reserved.new.self) (state v e)) (sym (take_more calls i (Map 0 0 0 0 0 0) c.loop-call-test.true))
          (subst (λ z. Trail c.args.frames (take i calls ++ (call ∷ [])) z (state v e)) (sym c.push_reserved.ensures.items) more),
      c.push_reserved.ensures.len ∙ ap (λ z. z + 1) c.loop-call.invariant.1,
      omega (arith, c.push_reserved.ensures.capacity, c.loop-call.invariant.2),
      told.whole,
    )

pub returns-clause-trail : goal.returns-clause-trail
returns-clause-trail g c =
    subst (λ z. Trail c.args.frames z (vec_items c.loop-call.replies) (state g.P.Pmap.view c.loop-call.memory)) (take_all c.loop-call.call-index c.args.calls.now c.loop-call-test.false) c.loop-call.invariant.0

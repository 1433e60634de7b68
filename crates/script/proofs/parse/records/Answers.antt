-- A line that is a record puts its call behind the others; one that is none ends it.
use Rattle.std.proofs.Common.{vec_items, ◌∙◌}
use Rattle.std.proofs.lemmas.Result.{err_from_is_err_and}
use Rattle.pieces.specs.declared.cut.Cut.TheVariants.{Lines}
use Rattle.pieces.specs.Cuts.{pieces_at}
use Rattle.script.specs.Whole.{spoken}
use Rattle.script.proofs.Steps.{record_more, record_fails, records_all}
use Rattle.script.proofs.parse.records.Goals as goal

pub returns-in_err-call : goal.returns-in_err-call
returns-in_err-call c =
    let p = err_from_is_err_and c.from_residual.result c.from_residual.ensures.1 in
    let inv = c.loop-line.invariant in
    rw (p.1, p.2)
    (record_fails (vec_items c.loop-line.calls) c.len-before.result c.in-Some.line.number c.in-Some.line.text.now _
    (spoken c.loop-line.rest.number (pieces_at Lines c.args.rest.now.lines.text.now c.loop-line.rest.lines.at)) _ _
    (c.len-before.ensures ∙ c.loop-line.calls.ok.0) (rw inv.0 at c.in-Some.ensures.split) c.in_err-call.ensures inv.2)

pub loop-line-preserved : goal.loop-line-preserved
loop-line-preserved c =
    let inv = c.loop-line.invariant in
    let law = c.in-Some.ensures in (
      law.text ∙ inv.0,
      law.counted,
      record_more (vec_items c.loop-line.calls) (vec_items c.push.new.self) c.len-before.result c.in-Some.line.number c.in-Some.line.text.now c.in_ok-call.call
          (spoken c.loop-line.rest.number (pieces_at Lines c.args.rest.now.lines.text.now c.loop-line.rest.lines.at)) _ _
          (c.len-before.ensures ∙ c.loop-line.calls.ok.0) (rw inv.0 at law.split) c.in_ok-call.ensures c.in_ok-push.ensures.items inv.2,
    )

pub returns : goal.returns
returns c =
    let inv = c.loop-line.invariant in
    records_all (vec_items c.loop-line.calls) (spoken c.loop-line.rest.number (pieces_at Lines c.args.rest.now.lines.text.now c.loop-line.rest.lines.at)) _
    (rw inv.0 at c.in_default.ensures.split) inv.2

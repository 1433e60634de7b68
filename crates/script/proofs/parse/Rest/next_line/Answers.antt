-- A line that says nothing is passed over; the first other one is the answer.
use Rattle.std.proofs.Common.{◌∙◌, arith}
use Rattle.script.proofs.Steps.{line_skip, line_keep, line_stop}
use Rattle.script.proofs.parse.Rest.next_line.Goals as goal

pub overflow_add-self : goal.overflow_add-self
overflow_add-self c = let inv = c.loop-text.invariant in let m = c.in-Some.ensures.moved in omega (arith, inv.1, m.0, m.2)

pub returns-then-not-is_silent : goal.returns-then-not-is_silent
returns-then-not-is_silent c =
    let inv = c.loop-text.invariant in
    let law = c.in-Some.ensures in
    record {
      split = line_keep c.args.self.now.lines.text.now c.loop-text.self.lines.text.now c.in-Some.text.now c.loop-text.self.number c.loop-text.self.lines.at
          c.next_piece.new.self.at _ inv.0 inv.3 law.split c.if-not-is_silent.ensures;
      text = law.text ∙ inv.0;
      moved = (omega (arith, inv.2, law.moved.0), rw inv.0 at law.moved.1);
      counted = omega (arith, inv.1, law.moved.0);
    }

pub loop-text-preserved : goal.loop-text-preserved
loop-text-preserved c =
    let inv = c.loop-text.invariant in
    let law = c.in-Some.ensures in (
      law.text ∙ inv.0,
      omega (arith, inv.1, law.moved.0),
      omega (arith, inv.2, law.moved.0),
      line_skip c.args.self.now.lines.text.now c.loop-text.self.lines.text.now c.in-Some.text.now c.loop-text.self.number c.loop-text.self.lines.at
          c.next_piece.new.self.at _ inv.0 inv.3 law.split c.if-not-is_silent.ensures,
    )

pub returns : goal.returns
returns c =
    let inv = c.loop-text.invariant in
    let law = c.in_default.ensures in
    record {
      split = line_stop c.args.self.now.lines.text.now c.loop-text.self.lines.text.now c.loop-text.self.number c.loop-text.self.lines.at _ inv.0 inv.3 law.split;
      text = law.text ∙ inv.0;
      moved = tt;
      counted = omega (arith, inv.1, law.moved);
    }

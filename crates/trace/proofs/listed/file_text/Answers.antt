-- The trace that was read is the one that the closure was called at.
use Rattle.std.proofs.Common.{Ok, Err, IfOk, Result, vec_items, rules}
use Rattle.std.specs.Fn.{FnOnceReturnsAt}
use Rattle.trace.specs.Format.{checked}
use Rattle.trace.specs.Listed.{Listed}
use Rattle.trace.specs.declared.listed.Trace.{Trace}
use Rattle.trace.proofs.listed.file_text.Goals as goal

made : {X Y Z W : Type 0} (r : Result X Y) (s : Result Z W) (P Q : Trace → Type 0) (t : Trace) → P t → Q t → IfOk r (λ _. IfOk s (λ _. (t : Trace) × P t × Q t))
made (Ok x) (Ok y) P Q t p q = (t, p, q)
made (Ok x) (Err y) P Q t p q = tt
made (Err x) s P Q t p q = tt

pub returns-in-Ok-clause-listed : goal.returns-in-Ok-clause-listed
returns-in-Ok-clause-listed g c =
    let called : FnOnceReturnsAt g.F.FnOnce c.args.trace_text c.in-Ok.trace c.trace_text.result = search rules in
    made (checked c.args.bytes.now) c.trace_text.result (λ t. Listed c.args.bytes.now t.frames (vec_items t.entries))
    (λ t. FnOnceReturnsAt g.F.FnOnce c.args.trace_text t c.trace_text.result) c.in-Ok.trace c.in-Ok.ensures called

-- A turn puts the bytes of the first call that is left behind the others.
use Rattle.std.proofs.Common.{◌≡◌, ℕ, ◌+◌, ◌<◌, ◌≤◌, List, ◌++◌, length, get_or, drop, Some, None, Ok, Err, vec_items, Result, Option, refl, sym, ap, ◌∙◌}
use Rattle.std.proofs.lemmas.List.{at_drop_more, at_drop_all}
use Rattle.std.specs.Option.{ok_or}
use Rattle.std.proofs.lemmas.Result.{err_from_is_err_and}
use Rattle.calls.specs.declared.Call.{Call}
use Rattle.trace.specs.Format.{encoded}
use Rattle.script.specs.declared.bytes.Unmade.{Unmade}
use Rattle.script.specs.declared.bytes.Unmade.TheVariants.{Misfit}
use Rattle.script.specs.Made.{bytes_from}
use Rattle.script.proofs.bytes.push_records.Goals as goal

more : (cs : List Call) (i : ℕ) (d : Call) (out : List ℕ) → i < length cs
    → bytes_from out (drop i cs) ≡ elim (encoded (get_or cs i d)) [ Some bytes ↦ bytes_from (out ++ bytes) (drop (i + 1) cs) | None ↦ Err (Misfit (get_or cs i d)) ]
unfolding bytes_from
more cs i d out h = at_drop_more (bytes_from out) cs i d h

put : (cs : List Call) (i : ℕ) (d : Call) (out new bytes : List ℕ) (total : Result (List ℕ) Unmade) → i < length cs → encoded (get_or cs i d) ≡ Some bytes → new ≡ out ++ bytes
    → bytes_from out (drop i cs) ≡ total → bytes_from new (drop (i + 1) cs) ≡ total
put cs i d out new bytes total h is made inv = ap (λ x. bytes_from x (drop (i + 1) cs)) made ∙ sym (more cs i d out h ∙ rw is) ∙ inv

misfit : (cs : List Call) (i : ℕ) (d : Call) (out : List ℕ) (total : Result (List ℕ) Unmade) → i < length cs → encoded (get_or cs i d) ≡ None → bytes_from out (drop i cs) ≡ total
    → total ≡ Err (Misfit (get_or cs i d))
misfit cs i d out total h is inv = sym inv ∙ more cs i d out h ∙ rw is

done : (cs : List Call) (i : ℕ) (out : List ℕ) (total : Result (List ℕ) Unmade) → length cs ≤ i → bytes_from out (drop i cs) ≡ total → total ≡ Ok out
unfolding bytes_from
done cs i out total h inv = sym inv ∙ at_drop_all (bytes_from out) cs i h

some_from_ok : (o : Option (List ℕ)) (e : Unmade) (x : List ℕ) → ok_or o e ≡ Ok x → o ≡ Some x
some_from_ok (Some y) e x h = cc
some_from_ok None e x h = cc

none_from_err : (o : Option (List ℕ)) (e f : Unmade) → ok_or o e ≡ Err f → (o ≡ None) × (f ≡ e)
none_from_err (Some y) e f h = cc
none_from_err None e f h = (refl, cc)

pub loop-call-preserved : goal.loop-call-preserved
loop-call-preserved c =
    put c.args.calls.now c.loop-call.call-index _ (vec_items c.loop-call.bytes) _ _ _ c.loop-call-test.true
    (sym c.encode.ensures.value ∙ some_from_ok _ _ _ (sym c.ok_or.ensures.value ∙ c.in_ok-spelled.was))
    c.in_ok-extend_from_slice.ensures.items c.loop-call.invariant

pub returns-in_err-spelled : goal.returns-in_err-spelled
returns-in_err-spelled c =
    let p = err_from_is_err_and c.from_residual.result c.from_residual.ensures.1 in
    let n = none_from_err _ _ _ (sym c.ok_or.ensures.value ∙ c.in_err-spelled.was) in
    rw (p.1, p.2, n.1) (misfit c.args.calls.now c.loop-call.call-index _ (vec_items c.loop-call.bytes) _ c.loop-call-test.true (sym c.encode.ensures.value ∙ n.0) c.loop-call.invariant)

pub returns : goal.returns
returns c = done c.args.calls.now c.loop-call.call-index (vec_items c.loop-call.bytes) _ c.loop-call-test.false c.loop-call.invariant

-- Each field takes its two words from the front; after the last none may be left.
use Rattle.std.proofs.Common.{◌≡◌, ℕ, ◌+◌, ◌<◌, ◌≤◌, List, [], ◌∷◌, length, get_or, drop, Ok, Err, Result, sym, ap, ◌∙◌}
use Rattle.std.proofs.lemmas.List.{at_drop_more, at_drop_all}
use Rattle.std.proofs.lemmas.Result.{err_from_is_err_and}
use Rattle.pieces.specs.Cuts.{words_at}
use Rattle.script_line.specs.declared.fault.Reason.{Reason}
use Rattle.script_line.specs.declared.fault.Reason.TheVariants.{ExtraWord}
use Rattle.script_line.specs.declared.field.Field.{Field}
use Rattle.calls.specs.declared.operation.Values.{Values}
use Rattle.script_line.specs.Form.{field_in, filled, put_in}
use Rattle.script_line.proofs.line.values.Goals as goal

more : (fs : List Field) (i : ℕ) (d : Field) (v : Values) (ws : List (List ℕ)) → i < length fs
    → filled (drop i fs) v ws ≡ elim (field_in (get_or fs i d) ws) [ Ok p ↦ filled (drop (i + 1) fs) (put_in v (get_or fs i d) p.0) p.1 | Err e ↦ Err e ]
unfolding filled
more fs i d v ws h = at_drop_more (λ xs. filled xs v ws) fs i d h

-- the text stays the same, so the words of the loop are those of the start
put : (fs : List Field) (i : ℕ) (d : Field) (v new : Values) (ws rest : List (List ℕ)) (n : ℕ) (total : Result Values Reason) → i < length fs
    → field_in (get_or fs i d) ws ≡ Ok (n, rest) → new ≡ put_in v (get_or fs i d) n → filled (drop i fs) v ws ≡ total → filled (drop (i + 1) fs) new rest ≡ total
put fs i d v new ws rest n total h e made inv = ap (λ x. filled (drop (i + 1) fs) x rest) made ∙ sym (more fs i d v ws h ∙ rw e) ∙ inv

fails : (fs : List Field) (i : ℕ) (d : Field) (v : Values) (ws : List (List ℕ)) (e : Reason) (total : Result Values Reason) → i < length fs
    → field_in (get_or fs i d) ws ≡ Err e → filled (drop i fs) v ws ≡ total → Err e ≡ total
fails fs i d v ws e total h is inv = sym (more fs i d v ws h ∙ rw is) ∙ inv

extra : (fs : List Field) (i : ℕ) (v : Values) (w : List ℕ) (ws rest : List (List ℕ)) (total : Result Values Reason) → length fs ≤ i → ws ≡ w ∷ rest
    → filled (drop i fs) v ws ≡ total → Err ExtraWord ≡ total
unfolding filled
extra fs i v w ws rest total h e inv = sym (at_drop_all (λ xs. filled xs v ws) fs i h ∙ ap (filled [] v) e) ∙ inv

done : (fs : List Field) (i : ℕ) (v : Values) (ws : List (List ℕ)) (total : Result Values Reason) → length fs ≤ i → ws ≡ [] → filled (drop i fs) v ws ≡ total → Ok v ≡ total
unfolding filled
done fs i v ws total h e inv = sym (at_drop_all (λ xs. filled xs v ws) fs i h ∙ ap (filled [] v) e) ∙ inv

pub returns-in_err-value : goal.returns-in_err-value
returns-in_err-value c =
    let p = err_from_is_err_and c.from_residual.result c.from_residual.ensures.1 in
    rw (p.1, p.2)
    (fails c.args.fields.now c.loop-field.field-index _ c.loop-field.values (words_at c.args.words.now.text.now c.loop-field.words.at) _ _
    c.loop-field-test.true (rw c.loop-field.invariant.0 at c.in_err-value.ensures.value) c.loop-field.invariant.1)

pub loop-field-preserved : goal.loop-field-preserved
loop-field-preserved c =
    let law = c.in_ok-value.ensures in (
      law.text ∙ c.loop-field.invariant.0,
      put c.args.fields.now c.loop-field.field-index _ c.loop-field.values c.put.new.values (words_at c.args.words.now.text.now c.loop-field.words.at)
          (words_at c.args.words.now.text.now c.field_value.new.words.at) c.in_ok-value.value _
          c.loop-field-test.true (rw c.loop-field.invariant.0 at law.value) c.put.ensures c.loop-field.invariant.1,
    )

pub returns-in-Some : goal.returns-in-Some
returns-in-Some c =
    extra c.args.fields.now c.loop-field.field-index c.loop-field.values _ (words_at c.args.words.now.text.now c.loop-field.words.at) _ _
    c.loop-field-test.false (rw c.loop-field.invariant.0 at c.in-Some.ensures.split) c.loop-field.invariant.1

pub returns-in-None : goal.returns-in-None
returns-in-None c =
    done c.args.fields.now c.loop-field.field-index c.loop-field.values (words_at c.args.words.now.text.now c.loop-field.words.at) _
    c.loop-field-test.false (rw c.loop-field.invariant.0 at c.in-None.ensures.split) c.loop-field.invariant.1

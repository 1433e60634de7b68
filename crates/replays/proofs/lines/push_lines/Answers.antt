use Rattle.std.proofs.Common.{◌≡◌, ℕ, ◌+◌, ◌<◌, List, ◌++◌, length, get_or, drop, string_bytes, sym, ap, ◌∙◌, append_assoc, append-nil}
use Rattle.std.specs.Slice.Iter.{iter_rest}
use Rattle.std.proofs.lemmas.List.{at_drop_more, at_drop_all}
use Rattle.trace.specs.declared.record.Entry.{Entry}
use Rattle.rules.specs.Rules.{Reply}
use Rattle.replays.specs.Blocks.{outcome_line, outcome_of, next_reply, used, lines_of}
use Rattle.replays.proofs.lines.push_lines.Goals as goal

-- the first of the records that are left
step : (es : List Entry) (rs : List Reply) (i : ℕ) (d : Entry) → i < length es → lines_of (drop i es) rs ≡ outcome_line (get_or es i d).number (outcome_of (get_or es i d) (next_reply rs)) ++ lines_of (drop (i + 1) es) (drop (used (get_or es i d).content) rs)
unfolding lines_of
step es rs i d lt = at_drop_more (λ z. lines_of z rs) es i d lt

again : (es : List Entry) (rs left : List Reply) (old new line total : List ℕ) (i : ℕ) (d : Entry)
    → i < length es → left ≡ drop (used (get_or es i d).content) rs → line ≡ outcome_line (get_or es i d).number (outcome_of (get_or es i d) (next_reply rs)) → new ≡ old ++ line
    → old ++ lines_of (drop i es) rs ≡ total → new ++ lines_of (drop (i + 1) es) left ≡ total
again es rs left old new line total i d lt rest is put whole =
    rw (put, rest, is) (append_assoc old _ _ ∙ ap (λ z. old ++ z) (sym (step es rs i d lt)) ∙ whole)

pub loop-item-preserved : goal.loop-item-preserved
loop-item-preserved c =
    again c.args.entries.now (iter_rest c.loop-item.left) _ _ _ _ _ c.loop-item.item-index _ c.loop-item-test.true c.next_outcome-became.ensures.rest
    (ap (outcome_line _) c.next_outcome-became.ensures.outcome) c.in_ok-push_line.ensures c.loop-item.invariant

pub returns : goal.returns
unfolding lines_of
returns c =
    sym (append-nil _) ∙ ap (λ x. string_bytes c.loop-item.text ++ x) (sym (at_drop_all (λ z. lines_of z (iter_rest c.loop-item.left)) c.args.entries.now c.loop-item.item-index c.loop-item-test.false))
    ∙ c.loop-item.invariant

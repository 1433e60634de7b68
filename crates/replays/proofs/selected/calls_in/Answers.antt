use Rattle.std.proofs.Common.{◌≡◌, List, ◌++◌, vec_items, sym, ap, ◌∙◌, append_assoc, append-nil}
use Rattle.std.proofs.lemmas.List.{at_drop_more, at_drop_all}
use Rattle.calls.specs.declared.Call.{Call}
use Rattle.replays.specs.Selected.{calls_in}
use Rattle.replays.proofs.selected.calls_in.Goals as goal

again : (old new one rest left all : List Call) → new ≡ old ++ one → left ≡ one ++ rest → old ++ left ≡ all → new ++ rest ≡ all
again old new one rest left all put more whole = ap (λ x. x ++ rest) put ∙ append_assoc old one rest ∙ ap (λ x. old ++ x) (sym more) ∙ whole

pub loop-item-init : goal.loop-item-init
loop-item-init c = ap (λ x. x ++ calls_in c.args.entries.now) c.new-calls.ensures.items

pub loop-item-preserved : goal.loop-item-preserved
unfolding calls_in
loop-item-preserved c =
    again _ _ _ _ _ _ c.in_ok-push_call.ensures (at_drop_more calls_in c.args.entries.now c.loop-item.item-index _ c.loop-item-test.true) c.loop-item.invariant

pub returns : goal.returns
unfolding calls_in
returns c =
    sym (append-nil _) ∙ ap (λ x. vec_items c.loop-item.calls ++ x) (sym (at_drop_all calls_in c.args.entries.now c.loop-item.item-index c.loop-item-test.false)) ∙ c.loop-item.invariant

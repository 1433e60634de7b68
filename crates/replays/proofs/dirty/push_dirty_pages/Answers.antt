use Rattle.std.proofs.Common.{◌≡◌, ℕ, ◌+◌, Bool, List, ◌++◌, sym, ap, ◌∙◌, append_assoc, append-nil, add-one}
use Rattle.rules.specs.State.{is_modified}
use Rattle.memory.specs.Whole.{state}
use Rattle.replays.specs.Blocks.{dirty_line_if, dirty_lines}
use Rattle.replays.proofs.dirty.push_dirty_pages.Goals as goal

again : (m : ℕ → Bool) (x : ℕ) (b : Bool) (old mid new : List ℕ) → mid ≡ old ++ dirty_lines m x → b ≡ m x → new ≡ mid ++ dirty_line_if b x → new ≡ old ++ dirty_lines m (x + 1)
unfolding dirty_lines
again m x b old mid new front is put =
    put ∙ ap (λ z. z ++ dirty_line_if b x) front ∙ append_assoc old (dirty_lines m x) (dirty_line_if b x) ∙ ap (λ z. old ++ (dirty_lines m x ++ dirty_line_if z x)) is ∙ ap (λ z. old ++ z) (rw add-one)

pub loop-x-init : goal.loop-x-init
unfolding dirty_lines
loop-x-init g c = sym (append-nil _)

pub loop-x-preserved : goal.loop-x-preserved
loop-x-preserved g c =
    again (is_modified (state g.P.Pmap.view c.args.memory.now)) c.loop-x.x c.is_modified.result _ _ _ c.loop-x.invariant c.is_modified.ensures c.in_ok-push_dirty.ensures

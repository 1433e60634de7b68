use Rattle.std.proofs.Common.{◌+◌, ◌-◌, sym, ap, ◌∙◌, arith}
use Rattle.x86_words.specs.State.{free_from}
use Rattle.x86_words.proofs.Sets.{holds_wired_is, free_here, free_more, free_last}
use Rattle.x86_words.proofs.leaves.free_leaf.Goals as goal

pub loop-step-preserved : goal.loop-step-preserved
loop-step-preserved c =
    let words = c.args.words.now in
    let n = 15 - c.loop-step._step in
    let m = 15 - (c.loop-step._step + 1) in
    ap (λ t. free_from words t m) c.after-leaf.ensures ∙ sym (free_more words c.loop-step.leaf.number n m (omega arith) (holds_wired_is c.args.words.now c.loop-step.leaf.number c.if-not-holds_wired.ensures)) ∙ c.loop-step.invariant

pub returns-then-not-holds_wired : goal.returns-then-not-holds_wired
returns-then-not-holds_wired c = sym (free_here c.args.words.now c.loop-step.leaf.number (15 - c.loop-step._step) (holds_wired_is c.args.words.now c.loop-step.leaf.number c.if-not-holds_wired.ensures)) ∙ c.loop-step.invariant

pub returns : goal.returns
returns c = sym (free_last c.args.words.now c.loop-step.leaf.number (15 - c.loop-step._step) (omega arith)) ∙ c.loop-step.invariant

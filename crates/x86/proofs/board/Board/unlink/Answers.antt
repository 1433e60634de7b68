use Rattle.std.proofs.Common.{ℕ, get_or, cond, sym, refl, ◌∙◌, arith}
use Rattle.std.proofs.lemmas.Bool.{cond-true, cond-false}
use Rattle.std.proofs.lemmas.List.{with_items_is}
use Rattle.x86_words.specs.Words.{points_to}
use Rattle.x86_words.specs.State.{unlinked}
use Rattle.x86.specs.Reads.{state}
use Rattle.x86_words.proofs.Sweeps.{changing_none, changing_more, same_state}
use Rattle.x86_words.proofs.Sets.{unlinked_all}
use Rattle.x86.proofs.board.Board.unlink.Goals as goal
use Rattle.x86.proofs.board.Board.unlink.Goals.{then-points_to, else-points_to}

pub loop-word-init : goal.loop-word-init
loop-word-init c = changing_none _ (λ w. cond (points_to w c.args.leaf.number) 0 w)

pub loop-word-preserved : goal.loop-word-preserved
loop-word-preserved c =
    let t = c.args.leaf.number in
    let part = c.loop-word.directories in
    let i = c.loop-word.word-index in
    let x : ℕ = get_or part i 0 in
    let change = λ (w : ℕ). cond (points_to w t) 0 w in
    elim c.if-points_to.branch [
      | then-points_to w ↦ changing_more _ change part c.if-points_to.directories i 0 c.loop-word.invariant (omega arith) (sym (cond-true (points_to x t) 0 x (sym c.points_to.ensures ∙ w.if-points_to.true))) w.directories-is
      | else-points_to w ↦ changing_more _ change part c.if-points_to.directories i x c.loop-word.invariant (omega arith) (sym (cond-false (points_to x t) 0 x (sym c.points_to.ensures ∙ w.if-points_to.false))) w.directories-is
    ]

pub returns : goal.returns
unfolding unlinked
returns c = same_state
    (with_items_is c.args.self.now.words _ (omega arith)
    ∙ unlinked_all (state c.args.self.now) c.args.leaf.number c.deref_mut.result.now c.loop-word.directories c.loop-word.word-index c.deref_mut.ensures.value (omega arith) (omega arith) (omega arith) c.loop-word.invariant)
    refl refl

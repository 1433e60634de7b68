use Rattle.std.proofs.Common.{refl, ◌∙◌, arith}
use Rattle.std.proofs.lemmas.List.{with_items_is}
use Rattle.std.proofs.lemmas.List.Edits.{fill_by_more}
use Rattle.std.proofs.lemmas.List.FromFn.{fill_by_all}
use Rattle.x86_words.specs.State.{start_word, wiped}
use Rattle.x86_words.proofs.Sweeps.{same_state}
use Rattle.x86.proofs.board.Board.start_words.Goals as goal

pub loop-at-preserved : goal.loop-at-preserved
loop-at-preserved c = rw c.start_word.ensures (fill_by_more start_word c.loop-at.word-items c.loop-at.at 0 (omega arith) c.loop-at.invariant)

pub returns : goal.returns
unfolding wiped
returns c = same_state (with_items_is c.args.self.now.words c.loop-at.word-items (omega arith) ∙ fill_by_all start_word c.loop-at.word-items 8192 0 (omega arith) (λ k h. c.loop-at.invariant k (omega arith))) refl refl

-- What is left has the same words.
use Rattle.std.proofs.Common.{◌≡◌, ◌+◌, ◌-◌, length}
use Rattle.pieces.specs.Cuts.{words_at}
use Rattle.pieces.proofs.cut.Pieces.next_word.Given as goal

abbrev pub invariant-loop-piece : goal.invariant-loop-piece
invariant-loop-piece l =
    (l.self.text.now ≡ l.initial.self.text.now) × (words_at l.initial.self.text.now l.self.at ≡ words_at l.initial.self.text.now l.initial.self.at)

abbrev pub decreases-loop-piece : goal.decreases-loop-piece
decreases-loop-piece l = length l.self.text.now + 1 - l.self.at

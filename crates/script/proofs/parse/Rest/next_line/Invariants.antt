-- What is left has the same lines that say something.
use Rattle.std.proofs.Common.{◌≡◌, ◌+◌, ◌-◌, ◌≤◌, length}
use Rattle.pieces.specs.declared.cut.Cut.TheVariants.{Lines}
use Rattle.pieces.specs.Cuts.{pieces_at}
use Rattle.script.specs.Whole.{spoken}
use Rattle.script.proofs.parse.Rest.next_line.Given as goal

abbrev pub invariant-loop-text : goal.invariant-loop-text
invariant-loop-text l =
    (l.self.lines.text.now ≡ l.initial.self.lines.text.now) × (l.self.number ≤ l.self.lines.at + 1) × (l.initial.self.lines.at ≤ l.self.lines.at)
    × (spoken l.self.number (pieces_at Lines l.initial.self.lines.text.now l.self.lines.at)
    ≡ spoken l.initial.self.number (pieces_at Lines l.initial.self.lines.text.now l.initial.self.lines.at))

abbrev pub decreases-loop-text : goal.decreases-loop-text
decreases-loop-text l = length l.self.lines.text.now + 1 - l.self.lines.at

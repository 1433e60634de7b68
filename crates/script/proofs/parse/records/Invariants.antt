-- The lines that are left, behind the calls so far, come to the same.
use Rattle.std.proofs.Common.{◌≡◌, ◌+◌, ◌-◌, ◌≤◌, [], length, vec_items}
use Rattle.pieces.specs.declared.cut.Cut.TheVariants.{Lines}
use Rattle.pieces.specs.Cuts.{pieces_at}
use Rattle.script.specs.Whole.{spoken, records_in}
use Rattle.script.proofs.parse.records.Given as goal

abbrev pub invariant-loop-line : goal.invariant-loop-line
invariant-loop-line l =
    (l.rest.lines.text.now ≡ l.initial.rest.lines.text.now) × (l.rest.number ≤ l.rest.lines.at + 1)
    × (records_in (vec_items l.calls) (spoken l.rest.number (pieces_at Lines l.initial.rest.lines.text.now l.rest.lines.at))
    ≡ records_in [] (spoken l.initial.rest.number (pieces_at Lines l.initial.rest.lines.text.now l.initial.rest.lines.at)))

abbrev pub decreases-loop-line : goal.decreases-loop-line
decreases-loop-line l = length l.rest.lines.text.now + 1 - l.rest.lines.at

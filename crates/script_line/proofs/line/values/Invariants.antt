-- The fields that are left, with the values so far and the words that are left, come to the same.
use Rattle.std.proofs.Common.{◌≡◌, drop}
use Rattle.pieces.specs.Cuts.{words_at}
use Rattle.script_line.specs.Form.{filled}
use Rattle.calls.specs.Operations.{no_values}
use Rattle.script_line.proofs.line.values.Given as goal

abbrev pub invariant-loop-field : goal.invariant-loop-field
invariant-loop-field l =
    (l.words.text.now ≡ l.initial.words.text.now)
    × (filled (drop l.field-index l.fields) l.values (words_at l.initial.words.text.now l.words.at)
    ≡ filled l.fields no_values (words_at l.initial.words.text.now l.initial.words.at))

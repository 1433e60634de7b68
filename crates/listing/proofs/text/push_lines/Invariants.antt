-- The lines of the entries so far stand behind the text.
use Rattle.std.proofs.Common.{◌≡◌, ◌++◌, take, string_bytes}
use Rattle.listing.specs.Text.{lines}
use Rattle.listing.proofs.text.push_lines.Given as goal

abbrev pub invariant-loop-item : goal.invariant-loop-item
invariant-loop-item l = string_bytes l.text ≡ string_bytes l.initial.text ++ lines (take l.item-index l.entries)

use Rattle.std.proofs.Common.{◌≡◌, ◌++◌, drop, string_bytes}
use Rattle.std.specs.Slice.Iter.{iter_rest}
use Rattle.replays.specs.Blocks.{lines_of}
use Rattle.replays.proofs.lines.push_lines.Given as goal

-- the text so far and the lines of the records that are left
abbrev pub invariant-loop-item : goal.invariant-loop-item
invariant-loop-item l =
    string_bytes l.text ++ lines_of (drop l.item-index l.entries) (iter_rest l.left) ≡ string_bytes l.initial.text ++ lines_of l.entries l.replies

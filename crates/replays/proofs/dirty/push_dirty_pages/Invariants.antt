use Rattle.std.proofs.Common.{◌≡◌, ◌++◌, string_bytes}
use Rattle.rules.specs.State.{is_modified}
use Rattle.memory.specs.Whole.{state}
use Rattle.replays.specs.Blocks.{dirty_lines}
use Rattle.replays.proofs.dirty.push_dirty_pages.Given as goal

-- the lines of the pages so far
abbrev pub invariant-loop-x : goal.invariant-loop-x
invariant-loop-x g l = string_bytes l.text ≡ string_bytes l.initial.text ++ dirty_lines (is_modified (state g.P.Pmap.view l.memory)) l.x

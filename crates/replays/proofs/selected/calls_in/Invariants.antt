use Rattle.std.proofs.Common.{◌≡◌, ◌++◌, drop, vec_items}
use Rattle.replays.specs.Selected.{calls_in}
use Rattle.replays.proofs.selected.calls_in.Given as goal

-- the calls so far and those of the entries that are left
abbrev pub invariant-loop-item : goal.invariant-loop-item
invariant-loop-item l = vec_items l.calls ++ calls_in (drop l.item-index l.entries) ≡ calls_in l.entries

use Rattle.std.proofs.Common.{◌≡◌, ◌≤◌, length, take, vec_items, vec_len, vec_capacity}
use Rattle.memory.specs.Whole.{state, Whole}
use Rattle.runs.specs.RunLaw.{Trail}
use Rattle.runs.proofs.run.drive.Given as goal

abbrev pub invariant-loop-call : goal.invariant-loop-call
invariant-loop-call g l =
    Trail l.frames (take l.call-index l.calls) (vec_items l.replies) (state g.P.Pmap.view l.memory)
    × (vec_len l.replies ≡ l.call-index)
    × (length l.calls ≤ vec_capacity l.replies)
    × Whole g.P.Pmap.view g.P.Pmap.kept l.memory

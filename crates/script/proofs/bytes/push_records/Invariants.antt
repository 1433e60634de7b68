-- The bytes of what is left, behind those so far, come to the same.
use Rattle.std.proofs.Common.{◌≡◌, drop, vec_items}
use Rattle.script.specs.Made.{bytes_from}
use Rattle.script.proofs.bytes.push_records.Given as goal

abbrev pub invariant-loop-call : goal.invariant-loop-call
invariant-loop-call l = bytes_from (vec_items l.bytes) (drop l.call-index l.calls) ≡ bytes_from (vec_items l.initial.bytes) l.calls

-- The calls that a trace's records spell. Assumes nothing.
use Rattle.std.specs.Prelude.{List, [], ◌∷◌, ◌++◌, Ok, Err, Result}
use Rattle.refusal.specs.declared.file.FileRefusal.{FileRefusal}
use Rattle.trace.specs.declared.record.Entry.{Entry}
use Rattle.calls.specs.declared.Call.{Call}

-- a record that is turned away is no call
abbrev pub call_in : Result Call FileRefusal → List Call
call_in (Ok r) = r ∷ []
call_in (Err e) = []

unfoldable pub calls_in : List Entry → List Call
calls_in [] = []
calls_in (e ∷ es) = call_in e.content ++ calls_in es

-- A whole text: which of its lines say something, and what they say together. Assumes nothing of the bytes.
use Rattle.std.specs.Prelude.{ℕ, ◌+◌, cond, List, [], ◌∷◌, ◌++◌, length, Ok, Err, Result, nat_le}
use Rattle.calls.specs.declared.Call.{Call}
use Rattle.pieces.specs.declared.cut.Cut.TheVariants.{Lines}
use Rattle.pieces.specs.Cuts.{pieces_at, words_at}
use Rattle.script_line.specs.declared.field.Field.TheVariants.{Frames}
use Rattle.script_line.specs.declared.fault.Fault.{Fault}
use Rattle.script_line.specs.declared.fault.Reason.{Reason}
use Rattle.script_line.specs.declared.fault.Reason.TheVariants.{Missing, TooManyRecords}
use Rattle.script_line.specs.Form.{record_in, frames_in, silent}

abbrev pub words_of : List ℕ → List (List ℕ)
words_of line = words_at line 0

-- the lines that say something, each with its number, where the first has the number `n`
unfoldable pub spoken : ℕ → List (List ℕ) → List (ℕ × List ℕ)
spoken n [] = []
spoken n (l ∷ ls) = cond (silent (words_of l)) (spoken (n + 1) ls) ((n, l) ∷ spoken (n + 1) ls)

-- an answer about a line, with the line's number where it tells what is wrong
abbrev pub faulted : {X : Type 0} → ℕ → Result X Reason → Result X Fault
faulted n (Ok x) = Ok x
faulted n (Err e) = Err (record { line = n; reason = e })

-- the call of a line, where the trace has so many records before it; it has at most 5461
abbrev pub record_at : ℕ → ℕ → List ℕ → Result Call Fault
record_at before n line = cond (nat_le 5461 before) (Err (record { line = n; reason = TooManyRecords })) (faulted n (record_in before (words_of line)))

-- one record after another, behind those so far
unfoldable pub records_in : List Call → List (ℕ × List ℕ) → Result (List Call) Fault
records_in cs [] = Ok cs
records_in cs (l ∷ ls) = elim (record_at (length cs) l.0 l.1) [ Ok call ↦ records_in (cs ++ (call ∷ [])) ls | Err e ↦ Err e ]

-- the frame count, and then the records
abbrev pub joined : ℕ → Result (List Call) Fault → Result (ℕ × List Call) Fault
joined frames (Ok cs) = Ok (frames, cs)
joined frames (Err e) = Err e

abbrev pub started_by : Result ℕ Fault → List (ℕ × List ℕ) → Result (ℕ × List Call) Fault
started_by (Ok frames) ls = joined frames (records_in [] ls)
started_by (Err e) ls = Err e

abbrev pub script_by : List (ℕ × List ℕ) → Result (ℕ × List Call) Fault
script_by [] = Err (record { line = 1; reason = Missing Frames })
script_by (l ∷ ls) = started_by (faulted l.0 (frames_in (words_of l.1))) ls

abbrev pub script_of : List ℕ → Result (ℕ × List Call) Fault
script_of text = script_by (spoken 1 (pieces_at Lines text 0))

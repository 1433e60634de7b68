-- What is made of a frame count and calls: their text, and the bytes of their trace. Assumes nothing of the calls.
use Rattle.std.specs.Prelude.{◌≡◌, ℕ, cond, List, [], ◌∷◌, ◌++◌, length, Some, None, Ok, Err, codes, decimal, Result, nat_lt}
use Rattle.std.specs.List.{flat_map}
use Rattle.refusal.specs.declared.file.FileRefusal.{FileRefusal}
use Rattle.refusal.specs.declared.file.FileRefusal.TheVariants.{Size}
use Rattle.calls.specs.declared.Call.{Call}
use Rattle.calls.specs.Words.{call_words}
use Rattle.trace.specs.Format.{encoded, encoded_frames}
use Rattle.script.specs.declared.bytes.Unmade.{Unmade}
use Rattle.script.specs.declared.bytes.Unmade.TheVariants.{File, Misfit, Memory}

-- a line for each call
abbrev pub call_lines : List Call → List ℕ
call_lines calls = flat_map (λ call. call_words call ++ codes "\n") calls

abbrev pub script_text : ℕ → List Call → List ℕ
script_text frames calls = (codes "frames " ++ (decimal frames ++ codes "\n")) ++ call_lines calls

-- the bytes of one call after another behind some bytes; none where a field of a call does not fit its bits
unfoldable pub bytes_from : List ℕ → List Call → Result (List ℕ) Unmade
bytes_from out [] = Ok out
bytes_from out (call ∷ calls) = elim (encoded call) [ Some bytes ↦ bytes_from (out ++ bytes) calls | None ↦ Err (Misfit call) ]

-- a trace has at most 5461 records
abbrev pub trace_by : Result (List ℕ) FileRefusal → List Call → Result (List ℕ) Unmade
trace_by (Ok head) calls = cond (nat_lt 5461 (length calls)) (Err (File Size)) (bytes_from head calls)
trace_by (Err e) calls = Err (File e)

abbrev pub trace_of : ℕ → List Call → Result (List ℕ) Unmade
trace_of frames calls = trace_by (encoded_frames frames) calls

-- an answer that there is no trace: the reason, or want of memory, of which nothing more is said
abbrev pub Refuses : Result (List ℕ) Unmade → Unmade → Type 0
Refuses r (File e) = r ≡ Err (File e)
Refuses r (Misfit call) = r ≡ Err (Misfit call)
Refuses r (Memory _) = Unit {0}

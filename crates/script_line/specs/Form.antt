-- The form of a line, by its words. Assumes nothing of the bytes.
use Rattle.std.specs.Prelude.{ℕ, Bool, true, false, cond, List, [], ◌∷◌, Some, None, Ok, Err, Option, Result, ◌==◌, slice_index}
use Rattle.std.specs.Char.{is_ascii_digit}
use Rattle.std.specs.Str.{bytes_eq}
use Rattle.calls.specs.declared.Call.{Call}
use Rattle.calls.specs.declared.operation.Values.{Values}
use Rattle.calls.specs.Operations.{operation_named, no_values, call_of}
use Rattle.pieces.specs.declared.numeral.Misread.{Misread}
use Rattle.pieces.specs.declared.numeral.Misread.TheVariants.{NoNumber as NotDigits, TooLarge as AboveGreatest}
use Rattle.pieces.specs.Numerals.{number_in}
use Rattle.script_line.specs.declared.field.Field.{Field}
use Rattle.script_line.specs.declared.field.Field.TheVariants.{Frames, Space, Page, Count, Object, Offset, Protection, Word}
use Rattle.script_line.specs.declared.fault.Reason.{Reason}
use Rattle.script_line.specs.declared.fault.Reason.TheVariants.{Missing, Expected, NoNumber, TooLarge, NoFrames, UnknownOperation, RecordNumber, ExtraWord}
use Rattle.calls.specs.declared.operation.Operation.{Operation}
use Rattle.calls.specs.declared.operation.Operation.TheVariants.{Map as MapO, Unmap as UnmapO, Protect as ProtectO, Read as ReadO, Write as WriteO, Wire as WireO, Unwire as UnwireO, Sync as SyncO}
use Rattle.script_line.specs.Names.{field_name, greatest}

-- the fields that an operation uses, in the order in which they stand
abbrev pub fields_for : Operation → List Field
fields_for MapO = Space ∷ Page ∷ Count ∷ Object ∷ Offset ∷ Protection ∷ []
fields_for UnmapO = Space ∷ Page ∷ []
fields_for ProtectO = Space ∷ Page ∷ Protection ∷ []
fields_for ReadO = Space ∷ Page ∷ []
fields_for WriteO = Space ∷ Page ∷ Word ∷ []
fields_for WireO = Space ∷ Page ∷ []
fields_for UnwireO = Space ∷ Page ∷ []
fields_for SyncO = Object ∷ []

-- the values with that of one field put; a frame count is none of them
abbrev pub put_in : Values → Field → ℕ → Values
put_in v Frames n = v
put_in v Space n = record v { space = n }
put_in v Page n = record v { page = n }
put_in v Count n = record v { count = n }
put_in v Object n = record v { object = n }
put_in v Offset n = record v { offset = n }
put_in v Protection n = record v { protection = n }
put_in v Word n = record v { word = n }

-- the value that a word gives a field: a decimal number that is not above the greatest
abbrev pub value_by : Field → Result ℕ Misread → Result ℕ Reason
value_by f (Ok n) = Ok n
value_by f (Err NotDigits) = Err (NoNumber f)
value_by f (Err AboveGreatest) = Err (TooLarge f)

abbrev pub value_of : Field → List ℕ → Result ℕ Reason
value_of f w = value_by f (number_in (greatest f) w)

-- a field at the front of some words, its name and its value: the value, and the words after it
abbrev pub followed : Result ℕ Reason → List (List ℕ) → Result (ℕ × List (List ℕ)) Reason
followed (Ok n) ws = Ok (n, ws)
followed (Err e) ws = Err e

abbrev pub value_in : Field → List (List ℕ) → Result (ℕ × List (List ℕ)) Reason
value_in f [] = Err (NoNumber f)
value_in f (w ∷ ws) = followed (value_of f w) ws

abbrev pub field_in : Field → List (List ℕ) → Result (ℕ × List (List ℕ)) Reason
field_in f [] = Err (Missing f)
field_in f (w ∷ ws) = cond (bytes_eq w (field_name f)) (value_in f ws) (Err (Expected f))

-- one field after another, and then no word more
unfoldable pub filled : List Field → Values → List (List ℕ) → Result Values Reason
filled [] v [] = Ok v
filled [] v (w ∷ ws) = Err ExtraWord
filled (f ∷ fs) v ws = elim (field_in f ws) [ Ok p ↦ filled fs (put_in v f p.0) p.1 | Err e ↦ Err e ]

-- an operation and its fields
abbrev pub called_by : Operation → Result Values Reason → Result Call Reason
called_by o (Ok v) = Ok (call_of o v)
called_by o (Err e) = Err e

abbrev pub call_by : Option Operation → List (List ℕ) → Result Call Reason
call_by None ws = Err UnknownOperation
call_by (Some o) ws = called_by o (filled (fields_for o) no_values ws)

abbrev pub call_in : List (List ℕ) → Result Call Reason
call_in [] = Err UnknownOperation
call_in (w ∷ ws) = call_by (operation_named w) ws

-- a record's line: its call; a number before it has to be the record's own
abbrev pub numbered : ℕ → Result ℕ Misread → Bool
numbered k (Ok n) = n == k
numbered k (Err e) = false

abbrev pub record_in : ℕ → List (List ℕ) → Result Call Reason
record_in k [] = Err UnknownOperation
record_in k (w ∷ ws) =
    cond (is_ascii_digit (slice_index w 0)) (cond (numbered k (number_in 4294967295 w)) (call_in ws) (Err RecordNumber)) (call_by (operation_named w) ws)

-- the line of the frame count, which is not 0
abbrev pub frames_by : Result (ℕ × List (List ℕ)) Reason → Result ℕ Reason
frames_by (Ok (n, [])) = cond (n == 0) (Err NoFrames) (Ok n)
frames_by (Ok (n, w ∷ ws)) = Err ExtraWord
frames_by (Err e) = Err e

abbrev pub frames_in : List (List ℕ) → Result ℕ Reason
frames_in ws = frames_by (field_in Frames ws)

-- a line without words, or whose first word begins with a number sign, says nothing
abbrev pub silent : List (List ℕ) → Bool
silent [] = true
silent (w ∷ ws) = slice_index w 0 == 35

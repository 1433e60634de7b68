-- The words for an entry, as bytes. Assumes nothing.
use Rattle.std.specs.Prelude.{ℕ, List, ◌++◌, Ok, Err, codes, decimal, Result}
use Rattle.refusal.specs.declared.file.FileRefusal.{FileRefusal}
use Rattle.refusal.specs.Codes.{file_code}
use Rattle.refusal.specs.Letters.{code_words}
use Rattle.trace.specs.declared.record.Entry.{Entry}
use Rattle.calls.specs.declared.Call.{Call}
use Rattle.calls.specs.Words.{call_words}

-- a call in words, or why its record is turned away
abbrev pub content_words : Result Call FileRefusal → List ℕ
content_words (Ok r) = codes " " ++ call_words r
content_words (Err e) = codes " refused " ++ code_words (file_code e)

-- the number of a record, and then what stands there
abbrev pub entry_words : Entry → List ℕ
entry_words e = decimal e.number ++ content_words e.content

-- of a file that is turned away, only the number of its refusal
abbrev pub refused_text : FileRefusal → List ℕ
refused_text e = codes "file " ++ (decimal (file_code e).number ++ codes "\n")

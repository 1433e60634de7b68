-- The messages about a text, as bytes. Assumes nothing.
use Rattle.std.specs.Prelude.{ℕ, List, ◌++◌, codes, decimal}
use Rattle.script_line.specs.declared.fault.Fault.{Fault}
use Rattle.script_line.specs.declared.fault.Reason.{Reason}
use Rattle.script_line.specs.declared.fault.Reason.TheVariants.{Missing, Expected, NoNumber, TooLarge, NoFrames, UnknownOperation, RecordNumber, ExtraWord, TooManyRecords}
use Rattle.script_line.specs.Names.{field_name, greatest}

abbrev pub reason_words : Reason → List ℕ
reason_words (Missing f) = codes "the field " ++ (field_name f ++ codes " is missing")
reason_words (Expected f) = codes "here the field " ++ (field_name f ++ codes " is due")
reason_words (NoNumber f) = codes "the value of " ++ (field_name f ++ codes " is no number")
reason_words (TooLarge f) = codes "the value of " ++ (field_name f ++ (codes " is above " ++ decimal (greatest f)))
reason_words NoFrames = codes "the value of frames is 0"
reason_words UnknownOperation = codes "no such operation"
reason_words RecordNumber = codes "this is not the record's number"
reason_words ExtraWord = codes "there is a word too many"
reason_words TooManyRecords = codes "a trace has at most 5461 records"

abbrev pub fault_words : Fault → List ℕ
fault_words e = codes "line " ++ (decimal e.line ++ (codes ": " ++ reason_words e.reason))

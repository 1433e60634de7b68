-- The fields of the text form: their names, and the greatest value of each. Assumes nothing.
use Rattle.std.specs.Prelude.{ℕ, List, codes}
use Rattle.script_line.specs.declared.field.Field.{Field}
use Rattle.script_line.specs.declared.field.Field.TheVariants.{Frames, Space, Page, Count, Object, Offset, Protection, Word}

abbrev pub field_name : Field → List ℕ
field_name Frames = codes "frames"
field_name Space = codes "space"
field_name Page = codes "page"
field_name Count = codes "count"
field_name Object = codes "object"
field_name Offset = codes "offset"
field_name Protection = codes "protection"
field_name Word = codes "word"

abbrev pub greatest : Field → ℕ
greatest Frames = 256
greatest Space = 15
greatest Page = 262143
greatest Count = 511
greatest Object = 15
greatest Offset = 255
greatest Protection = 3
greatest Word = 4294967295

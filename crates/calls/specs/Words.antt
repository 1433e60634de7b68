-- The words for a call, as bytes. Assumes nothing.
use Rattle.std.specs.Prelude.{ℕ, List, ◌++◌, codes, decimal}
use Rattle.calls.specs.Operations.{name_of, operation_of}
use Rattle.calls.specs.declared.Call.{Call}
use Rattle.calls.specs.declared.Call.TheVariants.{Map, Unmap, Protect, Read, Write, Wire, Unwire, Sync}

-- the fields that a call uses, each after its name
abbrev pub field_words : Call → List ℕ
field_words (Map s p c o f r) =
    codes " space " ++ (decimal s ++ (codes " page " ++ (decimal p ++ (codes " count " ++ (decimal c ++ (codes " object " ++ (decimal o
    ++ (codes " offset " ++ (decimal f ++ (codes " protection " ++ decimal r))))))))))
field_words (Unmap s p) = codes " space " ++ (decimal s ++ (codes " page " ++ decimal p))
field_words (Protect s p r) = codes " space " ++ (decimal s ++ (codes " page " ++ (decimal p ++ (codes " protection " ++ decimal r))))
field_words (Read s p) = codes " space " ++ (decimal s ++ (codes " page " ++ decimal p))
field_words (Write s p w) = codes " space " ++ (decimal s ++ (codes " page " ++ (decimal p ++ (codes " word " ++ decimal w))))
field_words (Wire s p) = codes " space " ++ (decimal s ++ (codes " page " ++ decimal p))
field_words (Unwire s p) = codes " space " ++ (decimal s ++ (codes " page " ++ decimal p))
field_words (Sync o) = codes " object " ++ decimal o

-- the operation, and each field that it uses after its name
abbrev pub call_words : Call → List ℕ
call_words call = name_of (operation_of call) ++ field_words call

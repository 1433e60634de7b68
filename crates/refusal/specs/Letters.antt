-- What a listing prints for a layer, and for a refusal, as the bytes of its text. Assumes nothing.
use Rattle.std.specs.Prelude.{ℕ, List, ◌++◌, codes, decimal}
use Rattle.refusal.specs.declared.code.Code.{Code}
use Rattle.refusal.specs.declared.code.Layer.{Layer}
use Rattle.refusal.specs.declared.code.Layer.TheVariants.{File, Memory, Pmap}

abbrev pub letter : Layer → List ℕ
letter File = codes "F"
letter Memory = codes "M"
letter Pmap = codes "P"

abbrev pub code_words : Code → List ℕ
code_words c = decimal c.number ++ (codes " " ++ letter c.layer)

-- What a listing prints for how an access went, as the bytes of its text. Assumes nothing.
use Rattle.std.specs.Prelude.{ℕ, List, codes}
use Rattle.rules.specs.declared.answer.Kind.{Kind}
use Rattle.rules.specs.declared.answer.Kind.TheVariants.{Hit, Soft, Hard}

abbrev pub kind_words : Kind → List ℕ
kind_words Hit = codes "hit"
kind_words Soft = codes "soft fault"
kind_words Hard = codes "hard fault"

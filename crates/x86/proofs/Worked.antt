-- The worked cases: each computes.
use Rattle.std.proofs.Common.{refl}
use Rattle.x86_words.specs.Words.{leaf_word, put_on}
use Rattle.x86.specs.Cases.{BoardCases}

pub board_cases : BoardCases
unfolding leaf_word put_on
board_cases = (refl, refl, refl, refl, refl, refl, refl)

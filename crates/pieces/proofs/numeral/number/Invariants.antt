-- What is left of the word continues the number so far.
use Rattle.std.proofs.Common.{◌≡◌, ◌≤◌, drop}
use Rattle.pieces.specs.Numerals.{number_from, number_in}
use Rattle.pieces.proofs.numeral.number.Given as goal

abbrev pub invariant-loop-byte : goal.invariant-loop-byte
invariant-loop-byte l = (l.number ≤ l.max) × (number_from l.max l.number (drop l.byte-index l.word) ≡ number_in l.max l.word)

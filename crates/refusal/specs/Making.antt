-- What comes back where a thing is not made. Assumes nothing.
use Rattle.std.specs.Prelude.{◌≡◌, Bool, true, false}
use Rattle.refusal.specs.declared.file.FileRefusal.TheVariants.{Size}
use Rattle.refusal.specs.declared.making.NotMade.{NotMade}
use Rattle.refusal.specs.declared.making.NotMade.TheVariants.{Refused, NoMemory}

-- a size that does not fit is refused; want of memory is the one other reason; what was given comes back as it was
abbrev pub GivenBack : {T : Type 0} → Bool → T → NotMade T → Type 0
GivenBack fits given (Refused refusal back) = (fits ≡ false) × (refusal ≡ Size) × (back ≡ given)
GivenBack fits given (NoMemory back) = (fits ≡ true) × (back ≡ given)

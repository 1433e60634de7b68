-- The names of the machines, as bytes. Assumes nothing.
use Rattle.std.specs.Prelude.{ℕ, List, codes}
use Rattle.machines.specs.declared.machine.Machine.{Machine}
use Rattle.machines.specs.declared.machine.Machine.TheVariants.{X86, PowerPc, Pile}

abbrev pub name_of : Machine → List ℕ
name_of X86 = codes "x86-64"
name_of PowerPc = codes "powerpc"
name_of Pile = codes "pile"

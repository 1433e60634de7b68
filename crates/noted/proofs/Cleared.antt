-- Flags that are all off tell a set that is empty. Assumes nothing.
use Rattle.std.proofs.Common.{false, replicate, sym, ◌∙◌, ap}
use lib.ListN.{get_or-replicate}
use Rattle.pmap.specs.Meaning.{View, Cleared}
use Rattle.noted.specs.Flags.{Tell}

pub all_off : (v : View) → Cleared v → Tell (replicate 256 false) v.modified
all_off v cleared f small = get_or-replicate 256 f false false small ∙ sym (ap (λ set. set f) cleared.marks)

use Rattle.std.proofs.Common.{true, sym, arith}
use lib.Seq.{set_out}
use Rattle.std.proofs.lemmas.Bool.Decides.{nat_tests}
use Rattle.noted.proofs.note.Goals as goal

pub returns-else-fits_frame : goal.returns-else-fits_frame
returns-else-fits_frame c =
    let none = c.if-fits_frame.ensures in
    sym (set_out c.args.flags.now c.args.frame true (grind (arith, nat_tests)))

-- Below a number that is shifted by `width` stand `width` zeros, and a value below 2 ^ width fits there.
use Rattle.std.proofs.Common.{◌≡◌, ◌*◌, ◌%◌, ◌^◌, ◌<◌, ◌≤◌, arith}
use Rattle.std.proofs.lemmas.Nat.{or_shifted, one_shl}
use Rattle.std.proofs.lemmas.Bool.Decides.{nat_tests}
use Rattle.trace.proofs.fields.append.Goals as goal

pub returns-then-value-width : goal.returns-then-value-width
returns-then-value-width c =
    let whole : c.args.number * 2 ^ c.args.width % 2 ^ 128 ≡ c.args.number * 2 ^ c.args.width = omega arith in
    let small : c.args.value < 2 ^ c.args.width = omega (arith, one_shl c.args.width 128 c.requires.0) in
    let joined = or_shifted c.args.number c.args.width c.args.value small in
    simp whole (simp joined (grind (arith, nat_tests)))

pub returns-else-value-width : goal.returns-else-value-width
returns-else-value-width c =
    let large : 2 ^ c.args.width ≤ c.args.value = omega (arith, one_shl c.args.width 128 c.requires.0) in
    grind (arith, nat_tests)

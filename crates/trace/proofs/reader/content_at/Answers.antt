-- The bytes' number, its fields and what they spell, as the definition has them.
use Rattle.std.proofs.Common.{ap, ◌∙◌, arith}
use Rattle.trace.specs.Format.{fields_of, content_of, content_at}
use Rattle.trace.proofs.Codec.{content_at_own}
use Rattle.trace.proofs.reader.content_at.Goals as goal

pub returns : goal.returns
unfolding content_at
returns c =
    let value = c.try_from.ensures ∙ ap content_of (c.of_number.ensures ∙ ap fields_of c.number_at.ensures) in
    record { value = value; own = content_at_own c.try_from.result c.args.bytes.now c.args.at (λ i. omega (arith, c.type_inv.bytes i)) value }

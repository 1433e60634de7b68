-- A mask of `width` ones is the remainder by 2 ^ width.
use Rattle.std.proofs.Common.{◌/◌, ◌^◌, arith}
use Rattle.std.proofs.lemmas.Nat.{and_mask, one_shl, pow_pos}
use Rattle.trace.proofs.fields.bits.Goals as goal

pub overflow_sub-result : goal.overflow_sub-result
overflow_sub-result c = omega (arith, one_shl c.args.width 128 c.requires.1, pow_pos c.args.width)

pub returns : goal.returns
returns c = simp (one_shl c.args.width 128 c.requires.1) (and_mask (c.args.number / 2 ^ c.args.low) c.args.width)

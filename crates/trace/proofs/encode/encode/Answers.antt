-- The bytes are the definition's at the number that the fields give.
use Rattle.std.proofs.Common.{◌≡◌, cond, Some, None, sym, ap, ◌∙◌, rules}
use Rattle.std.specs.Option.{option_map}
use Rattle.trace.specs.Format.{fit, packed, bytes_of, encoded}
use Rattle.trace.proofs.Codec.{encoded_by, encoded_back_by}
use Rattle.trace.proofs.encode.encode.Goals as goal

pub returns : goal.returns
returns c =
    let known = c.number.ensures ∙ ap (λ f. cond (fit f) (Some (packed f)) None) c.from.ensures in
    let mapped : c.map.result ≡ option_map bytes_of c.number.result = search rules in
    let value : c.map.result ≡ encoded c.args.call = mapped ∙ sym (encoded_by c.args.call c.number.result known) in
    record { value = value; back = encoded_back_by c.args.call c.map.result value }

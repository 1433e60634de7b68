-- The piece ends at the first cut.
use Rattle.std.proofs.Common.{length, drop, ap, ◌∙◌}
use Rattle.std.proofs.lemmas.List.{take_rest}
use Rattle.std.specs.Option.{unwrap_or}
use Rattle.pieces.specs.Cuts.{cuts}
use Rattle.pieces.proofs.First.{first_piece, len_is}
use Rattle.pieces.proofs.cut.piece_end.Goals as goal

pub returns-clause-split : goal.returns-clause-split
returns-clause-split c =
    let rest = drop c.args.at c.args.text.now in
    let found = rw (take_rest c.args.text.now c.args.at) at c.first_cut.ensures in
    let told = rw (take_rest c.args.text.now c.args.at) at c.unwrap_or.ensures in
    let len = told ∙ ap (λ o. unwrap_or o (length rest)) found ∙ len_is (cuts c.args.cut) rest in
    first_piece c.args.cut c.args.text.now c.args.at c.unwrap_or.result c.requires len

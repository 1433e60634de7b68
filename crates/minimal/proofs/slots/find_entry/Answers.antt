use Rattle.std.proofs.Common.{Option, ap, ◌∙◌, rules}
use borrow.Author.Tests.{tests}
use Rattle.std.specs.Option.{option_flatten}
use Rattle.std.proofs.lemmas.Iterator.{YieldsList-from_slice}
use Rattle.std.proofs.lemmas.Iterator.Search.{find_from_yields_List}
use Rattle.minimal.specs.declared.entry.Entry.{Entry}
use Rattle.minimal.specs.Entries.{is_at}
use Rattle.minimal.proofs.Search.{found_by_find}
use Rattle.minimal.proofs.slots.find_entry.Goals as goal

pub returns : goal.returns
returns c =
    let at = λ (x : Option Entry). is_at x c.args.space c.args.page in
    let first = find_from_yields_List at _ _ c.find.result c.find.ensures.ran (YieldsList-from_slice c.args.slots.now cc) (λ x b q k. search (rules, tests)) in
    c.flatten.ensures ∙ ap option_flatten (c.copied.ensures ∙ first) ∙ found_by_find c.args.slots.now c.args.space c.args.page

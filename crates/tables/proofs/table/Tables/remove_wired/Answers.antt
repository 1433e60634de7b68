use Rattle.std.proofs.Common.{◌≡◌, Some, None, vec_items, sym, ap, ◌∙◌}
use Rattle.rules.specs.Lists.{place}
use Rattle.rules.specs.Refusals.{is_place}
use Rattle.rules.specs.Rules.{with_wired}
use Rattle.tables.specs.Held.{state_of}
use Rattle.tables.proofs.Positions.{removed_is, nowhere_without}
use Rattle.tables.proofs.table.Tables.remove_wired.Goals as goal

pub returns-in-Some : goal.returns-in-Some
returns-in-Some c d n =
    let test = is_place c.args.space c.args.page in
    let e : place test (vec_items c.args.self.now.wired) ≡ Some c.in-Some.at = cc in
    ap (with_wired (state_of c.args.self.now d n)) (c.remove.ensures.items ∙ removed_is test (vec_items c.args.self.now.wired) c.in-Some.at e)

pub returns-in_default : goal.returns-in_default
returns-in_default c d n =
    let test = is_place c.args.space c.args.page in
    let e : place test (vec_items c.args.self.now.wired) ≡ None = cc in
    ap (with_wired (state_of c.args.self.now d n)) (sym (nowhere_without test (vec_items c.args.self.now.wired) e))

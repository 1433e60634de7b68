use Rattle.std.proofs.Common.{get_or, set, None, ap, ◌∙◌, arith, rules}
use Rattle.std.proofs.lemmas.List.{get_or_default, take_all, drop_all, append-nil}
use Rattle.std.proofs.lemmas.List.Edits.{map_over_more}
use Rattle.minimal.specs.Entries.{changed}
use Rattle.minimal.proofs.slots.change_slots.Goals as goal

pub loop-slot-preserved : goal.loop-slot-preserved
loop-slot-preserved c =
    let ys = c.loop-slot.slots in
    let i = c.loop-slot.slot-index in
    let x = get_or ys i None in
    ap (set ys i) c.change_slot.ensures
    ∙ map_over_more (changed c.args.change) c.args.slots.now ys i x (omega arith) c.loop-slot.invariant (get_or_default ys i None x (omega arith))

pub returns : goal.returns
returns c = search (rules, take_all, drop_all, append-nil)

use Rattle.std.proofs.Common.{◌≡◌, None, get_or, ◌∙◌, rules}
use borrow.Author.Tests.{tests}
use Rattle.std.proofs.lemmas.List.{set-get_or}
use Rattle.minimal.specs.Entries.{after, removed}
use Rattle.minimal.proofs.Holding.{tame_removed}
use Rattle.minimal.proofs.Mapped.{one_more, one_stays, all_written, written_sound, written_placed}
use Rattle.minimal.proofs.slots.Slots.remove.Goals as goal
use Rattle.minimal.proofs.slots.Slots.remove.Goals.{then-is_some_and, else-is_some_and}

pub loop-slot-preserved : goal.loop-slot-preserved
loop-slot-preserved c =
    let l = c.loop-slot in
    let change = removed c.args.place.space c.args.place.page in
    let x = get_or l.slot-items l.slot-index None in
    let stays = one_stays change c.args.self.list c.args.self.sound l.slot-index l.slot-items l.invariant in
    elim c.if-is_some_and.branch [
      | then-is_some_and w ↦
          let test = w.if-is_some_and in
          let gone : None ≡ after change x = search (rules, tests) in
          w.slot-items-is ∙ one_more change c.args.self.list c.args.self.sound l.slot-index l.slot-items l.invariant None None c.loop-slot-test.true gone
      | else-is_some_and w ↦ let test = w.if-is_some_and in stays c.if-is_some_and.slot-items c.loop-slot-test.true (search (rules, tests, set-get_or)) (search (rules, tests))
    ]

pub invariant_of-result : goal.invariant_of-result
invariant_of-result c =
    let l = c.loop-slot in
    let change = removed c.args.place.space c.args.place.page in
    let tame = tame_removed c.args.place.space c.args.place.page in
    record {
      sound = written_sound change c.args.self.list c.args.self.sound l.slot-index l.slot-items l.invariant tame c.loop-slot-test.false;
      placed = written_placed change c.args.self.list c.args.self.sound l.slot-index l.slot-items l.invariant tame c.args.self.placed c.loop-slot-test.false;
    }

pub returns : goal.returns
returns c =
    let l = c.loop-slot in
    all_written (removed c.args.place.space c.args.place.page) c.args.self.list c.args.self.sound l.slot-index l.slot-items l.invariant c.loop-slot-test.false

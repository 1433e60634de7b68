use Rattle.std.proofs.Common.{◌≡◌, Option, Some, None, get_or, set, ◌∙◌, rules}
use borrow.Author.Tests.{tests}
use Rattle.std.proofs.lemmas.List.{set-get_or}
use Rattle.minimal.specs.declared.entry.Entry.{Entry}
use Rattle.minimal.specs.Entries.{after, lowered}
use Rattle.minimal.proofs.Holding.{tame_lowered}
use Rattle.minimal.proofs.Mapped.{one_more, one_stays, all_written, written_sound, written_placed}
use Rattle.minimal.proofs.slots.Slots.lower.Goals as goal
use Rattle.minimal.proofs.slots.Slots.lower.Goals.{in-Some+then-is_of, in-Some+else-is_of, in_default}

pub loop-slot-preserved : goal.loop-slot-preserved
loop-slot-preserved c =
    let l = c.loop-slot in
    let change = lowered c.args.place.space c.args.place.page in
    let x = get_or l.slot-items l.slot-index None in
    let more = one_more change c.args.self.list c.args.self.sound l.slot-index l.slot-items l.invariant None in
    let stays = one_stays change c.args.self.list c.args.self.sound l.slot-index l.slot-items l.invariant in
    elim c.match-slot.branch [
      | in-Some+then-is_of w ↦
          let test = w.if-is_of in
          let e = w.in-Some.entry in
          let low : Option Entry = Some (record { space = e.space; page = e.page; frame = e.frame; protection = 1; wired = e.wired }) in
          let put : c.match-slot.slot-items ≡ set l.slot-items l.slot-index low = search (rules, tests) in
          let is : low ≡ after change x = search (rules, tests) in
          put ∙ more low c.loop-slot-test.true is
      | in-Some+else-is_of w ↦ let test = w.if-is_of in stays c.match-slot.slot-items c.loop-slot-test.true (search (rules, tests, set-get_or)) (search (rules, tests))
      | in_default w ↦ let test = w.in_default in stays c.match-slot.slot-items c.loop-slot-test.true (search (rules, tests, set-get_or)) (search (rules, tests))
    ]

pub invariant_of-result : goal.invariant_of-result
invariant_of-result c =
    let l = c.loop-slot in
    let change = lowered c.args.place.space c.args.place.page in
    let tame = tame_lowered c.args.place.space c.args.place.page in
    record {
      sound = written_sound change c.args.self.list c.args.self.sound l.slot-index l.slot-items l.invariant tame c.loop-slot-test.false;
      placed = written_placed change c.args.self.list c.args.self.sound l.slot-index l.slot-items l.invariant tame c.args.self.placed c.loop-slot-test.false;
    }

pub returns : goal.returns
returns c =
    let l = c.loop-slot in
    all_written (lowered c.args.place.space c.args.place.page) c.args.self.list c.args.self.sound l.slot-index l.slot-items l.invariant c.loop-slot-test.false

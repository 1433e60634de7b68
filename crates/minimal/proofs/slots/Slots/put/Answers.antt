use Rattle.std.proofs.Common.{◌≡◌, List, Option, map, None, Some, get_or, set, sym, ap, ◌∙◌, subst, rules}
use borrow.Author.Tests.{tests}
use Rattle.std.proofs.lemmas.List.{set-get_or}
use Rattle.minimal.specs.declared.entry.Entry.{Entry}
use Rattle.minimal.specs.Entries.{after, vacated, entry_of, Sound, Placed}
use Rattle.minimal.proofs.Calls.{put_keeps, put_keeps_placed}
use Rattle.minimal.proofs.Wired.{held_placed}
use Rattle.minimal.proofs.Mapped.{one_more, one_stays, all_written}
use Rattle.minimal.proofs.slots.Slots.put.Goals as goal
use Rattle.minimal.proofs.slots.Slots.put.Goals.{then-is_some_and, else-is_some_and}

pub loop-slot-preserved : goal.loop-slot-preserved
loop-slot-preserved c =
    let l = c.loop-slot in
    let change = vacated c.args.entry.place.space c.args.entry.place.page in
    let x = get_or l.slot-items l.slot-index None in
    let stays = one_stays change c.args.self.list c.args.self.sound l.slot-index l.slot-items l.invariant in
    elim c.if-is_some_and.branch [
      | then-is_some_and w ↦
          let test = w.if-is_some_and in
          let gone : None ≡ after change x = search (rules, tests) in
          w.slot-items-is ∙ one_more change c.args.self.list c.args.self.sound l.slot-index l.slot-items l.invariant None None c.loop-slot-test.true gone
      | else-is_some_and w ↦ let test = w.if-is_some_and in stays c.if-is_some_and.slot-items c.loop-slot-test.true (search (rules, tests, set-get_or)) (search (rules, tests))
    ]

pub returns : goal.returns
returns c =
    let l = c.loop-slot in
    let e = c.args.entry in
    ap (λ x. set l.slot-items c.args.at (Some x)) c.entry-plain.ensures
    ∙ ap (λ ys. set ys c.args.at (Some (entry_of e))) (all_written (vacated e.place.space e.place.page) c.args.self.list c.args.self.sound l.slot-index l.slot-items l.invariant c.loop-slot-test.false)

pub invariant_of-result : goal.invariant_of-result
invariant_of-result c =
    let l = c.loop-slot in
    let e = c.args.entry in
    let change = vacated e.place.space e.place.page in
    let is = all_written change c.args.self.list c.args.self.sound l.slot-index l.slot-items l.invariant c.loop-slot-test.false in
    let of_result = λ (Facts : List (Option Entry) → Type 0). λ (facts : Facts (set (map (after change) c.args.self.list) c.args.at (Some (entry_of e)))).
    subst (λ x. Facts (set l.slot-items c.args.at (Some x))) (sym c.entry-plain.ensures) (subst (λ ys. Facts (set ys c.args.at (Some (entry_of e)))) (sym is) facts) in
    record {
      sound = of_result Sound (put_keeps c.args.self.list c.args.self.sound c.args.at (entry_of e) c.requires);
      placed = of_result Placed (put_keeps_placed c.args.self.list c.args.self.sound c.args.at (entry_of e) c.requires c.args.self.placed (held_placed e));
    }

use Rattle.std.proofs.Common.{Some, ◌≡◌, false, refl, sym, ap, ◌∙◌, subst}
use Rattle.std.specs.Prelude.{option_map}
use Rattle.minimal.specs.declared.entry.Held.{Held}
use Rattle.pmap.specs.Meaning.{Unwired}
use Rattle.minimal.specs.Entries.{mapping_of, entry_of, found}
use Rattle.minimal.specs.Seen.{seen, UnwireForgets}
use Rattle.minimal.proofs.Wired.{room_latest}
use Rattle.minimal.proofs.table.MinimalPmap.unwire.Goals as goal

pub put-requires : goal.put-requires
put-requires c =
    let held = c.in-Some.entry in
    let entry : Held = record { place = c.in_ok-place.place; frame = held.frame; protection = held.protection; wired = false } in
    room_latest c.args.self.now.slots.list (entry_of entry) c.args.self.now.slots.sound refl held.frame.fits

pub returns-in-Some : goal.returns-in-Some
returns-in-Some c =
    let t = c.args.self.now in
    let u = c.put.new.self in
    let at = c.in_ok-place.ensures in
    let is : Some (entry_of c.in-Some.entry) ≡ found t.slots.list c.args.space c.args.page =
    sym (ap (option_map entry_of) c.in-Some.is) ∙ c.find.ensures ∙ ap (λ s. found t.slots.list s c.in_ok-place.place.page) at.1 ∙ ap (found t.slots.list c.args.space) at.2 in
    record {
      meaning = (at.0, subst (λ o. Unwired (seen t) (seen u) c.args.space c.args.page (mapping_of o)) is (rw (at.1, at.2) at c.put.ensures.meaning));
      only = subst (UnwireForgets t u c.args.space c.args.page) is (rw (at.1, at.2) at c.put.ensures.only);
    }

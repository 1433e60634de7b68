use Rattle.std.proofs.Common.{rules}
use borrow.Author.Tests.{tests}
use Rattle.minimal.specs.Entries.{dropped}
use Rattle.minimal.proofs.Holding.{tame_dropped}
use Rattle.minimal.proofs.Mapped.{slots_mapped, sound_mapped, placed_mapped}
use Rattle.minimal.proofs.slots.Slots.drop_frame.Goals as goal

pub invariant_of-result : goal.invariant_of-result
invariant_of-result c =
    record {
      sound = sound_mapped _ (dropped c.args.frame.number) _ (λ x y q k. search (rules, tests)) _ _ c.args.self.sound c.map-list.ensures.items (tame_dropped c.args.frame.number);
      placed = placed_mapped _ (dropped c.args.frame.number) _ (λ x y q k. search (rules, tests)) _ _ c.args.self.sound c.map-list.ensures.items (tame_dropped c.args.frame.number) c.args.self.placed;
    }

pub returns : goal.returns
returns c = slots_mapped _ (dropped c.args.frame.number) _ (λ x y q k. search (rules, tests)) _ _ c.args.self.sound c.map-list.ensures.items

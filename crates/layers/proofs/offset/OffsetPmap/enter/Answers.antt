use Rattle.std.proofs.Common.{subst}
use Rattle.pmap.specs.Meaning.{Enters}
use Rattle.layers.proofs.Shifts.{enters_shifted}
use Rattle.layers.proofs.offset.OffsetPmap.enter.Goals as goal

pub returns : goal.returns
returns g c =
    let view = g.P.Pmap.view in
    let s = c.args.self.now in
    record {
      meaning = enters_shifted (view s.below) (view c.enter.new.self) s.by c.args.space c.args.page c.args.frame c.args.protection c.args.wired c.enter.result s.small
          (subst (λ p. Enters (view s.below) (view c.enter.new.self) c.args.space p c.args.frame c.args.protection c.args.wired c.enter.result) c.page_below-page.ensures c.enter.ensures.meaning);
      kept = c.enter.ensures.kept;
    }

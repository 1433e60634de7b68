use Rattle.std.proofs.Common.{refl}
use Rattle.rules.proofs.Accepted.{fits}
use Rattle.memory_meaning.proofs.Serving.{restricts_not, restricts}
use Rattle.memory.proofs.regions.restrict_region.Goals as goal

pub lower_pages-requires : goal.lower_pages-requires
lower_pages-requires g c = let n = fits c.args.region.now c.requires.1 in (c.requires.0, (n.space, n.pages))

pub returns-then-protection-ne1 : goal.returns-then-protection-ne1
returns-then-protection-ne1 g c = record {
  passes = refl;
  restricted = restricts_not (g.P.Pmap.view c.args.pmap.now) c.args.region.now c.args.protection c.if-protection-ne1.true;
  kept = c.requires.0;
}

pub returns : goal.returns
returns g c = record {
  passes = c.lower_pages.ensures.passes;
  restricted = restricts (g.P.Pmap.view c.args.pmap.now) c.args.region.now c.args.protection (g.P.Pmap.view c.lower_pages.new.pmap) c.if-protection-ne1.false c.lower_pages.ensures.lowered;
  kept = c.lower_pages.ensures.kept;
}

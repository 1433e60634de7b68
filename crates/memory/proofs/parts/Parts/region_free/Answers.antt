use Rattle.std.proofs.Common.{vec_items, sym, ◌∙◌, arith}
use Rattle.rules.specs.Refusals.{begins}
use Rattle.tables.proofs.Positions.{place_inside}
use Rattle.memory_meaning.proofs.Serving.{region_none, region_wired, region_free}
use Rattle.memory.specs.Whole.{state}
use Rattle.memory.proofs.parts.Parts.region_free.Goals as goal

pub index-requires : goal.index-requires
index-requires g c =
    omega (arith, place_inside (begins c.args.space c.args.page) (vec_items c.args.self.now.tables.regions) c.in-Some.at (sym c.region_at.ensures ∙ c.in-Some.is), c.args.self.now.tables.regions.ok.0)

pub returns-in_default : goal.returns-in_default
returns-in_default g c =
    let m = c.args.self.now in
    region_none (state g.P.Pmap.view m) c.args.space c.args.page (sym c.region_at.ensures ∙ c.in_default.is)

pub returns-then-has_wired : goal.returns-then-has_wired
returns-then-has_wired g c =
    let m = c.args.self.now in
    region_wired (state g.P.Pmap.view m) c.args.space c.args.page c.in-Some.at c.index.result.now
    (sym c.region_at.ensures ∙ c.in-Some.is) c.index.ensures (sym c.has_wired.ensures ∙ c.if-has_wired.true)

pub returns : goal.returns
returns g c =
    let m = c.args.self.now in
    region_free (state g.P.Pmap.view m) c.args.space c.args.page c.in-Some.at c.index.result.now
    (sym c.region_at.ensures ∙ c.in-Some.is) c.index.ensures (sym c.has_wired.ensures ∙ c.if-has_wired.false)

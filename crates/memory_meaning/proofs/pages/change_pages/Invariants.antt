use Rattle.std.proofs.Common.{◌-◌, Option}
use Rattle.pmap.specs.Meaning.{Mapping}
use Rattle.memory_meaning.specs.Ranges.{Over, EachChanges}
use Rattle.memory_meaning.proofs.pages.change_pages.Given as goal

abbrev pub invariant-loop-page : goal.invariant-loop-page
invariant-loop-page g l =
    g.P.Pmap.kept l.pmap
    × ((to : Option Mapping → Option Mapping) → EachChanges (goal.F-post g l.change) (λ y. g.P.Pmap.kept y.now) (λ y. g.P.Pmap.view y.now) to l.space
    → Over to (g.P.Pmap.view l.initial.pmap) (g.P.Pmap.view l.pmap) l.space l.first (l.page - l.first))

use Rattle.memory.proofs.Entering.{place_fits, page_low, enters}
use Rattle.memory.proofs.parts.Parts.fault.Goals as goal

pub bring-requires : goal.bring-requires
bring-requires g c = record {
  kept = c.requires.whole.kept;
  good = c.requires.whole.ready.good;
  page = page_low g.P.Pmap.view c.args.self.now c.args.at.space c.args.at.page c.object_page.result c.args.region c.requires.whole.ready c.requires.covers c.object_page.ensures;
}

pub returns-in_err-enter : goal.returns-in_err-enter
returns-in_err-enter g c =
    absurd (enters g.P.Pmap.view c.args.self.now c.args.at.space c.args.at.page c.object_page.result c.args.region c.requires.whole.ready c.requires.covers c.object_page.ensures
    c.bring.new.self c.in_ok-brought.brought (place_fits c.args.at.space c.args.at.page c.args.at.space_fits c.args.at.page_fits) c.in_ok-brought.ensures.brings c.in_err-enter.field-0.0 c.in_err-enter.ensures.meaning.0)

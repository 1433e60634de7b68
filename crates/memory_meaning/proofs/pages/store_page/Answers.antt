use Rattle.std.proofs.Common.{◌/◌, eqb, get_or, set, sym, ap, ◌∙◌}
use Rattle.std.proofs.lemmas.Bool.{ne_eqb, and_left, and_right}
use Rattle.rules.specs.State.{dirty_in}
use Rattle.memory_meaning.proofs.StoredPages.{stores_not, stores_yes}
use Rattle.memory_meaning.proofs.pages.store_page.Goals as goal

pub returns-then-x-from : goal.returns-then-x-from
returns-then-x-from g c = record {
  stores = stores_not (g.P.Pmap.view c.args.pmap.now) c.args.store.now c.args.words.now c.args.object c.args.x c.args.page
      (and_left (eqb (c.args.x / 256) c.args.object) _ (ne_eqb (c.args.x / 256) c.args.object (λ e. c.if-x-from.true (e ∙ sym c.from.ensures))));
  kept = c.requires.0;
}

pub returns-in_default : goal.returns-in_default
returns-in_default g c = record {
  stores = stores_not (g.P.Pmap.view c.args.pmap.now) c.args.store.now c.args.words.now c.args.object c.args.x c.args.page
      (and_right (eqb (c.args.x / 256) c.args.object) _ (ap (dirty_in (g.P.Pmap.view c.args.pmap.now).modified) c.in_default.is));
  kept = c.requires.0;
}

pub returns-then-not-branch : goal.returns-then-not-branch
returns-then-not-branch g c = record {
  stores = stores_not (g.P.Pmap.view c.args.pmap.now) c.args.store.now c.args.words.now c.args.object c.args.x c.args.page
      (and_right (eqb (c.args.x / 256) c.args.object) _
      (ap (dirty_in (g.P.Pmap.view c.args.pmap.now).modified) c.in-Some.is ∙ sym c.in_ok-modified.ensures.1 ∙ c.if-not-branch.true));
  kept = c.requires.0;
}

pub returns : goal.returns
returns g c = record {
  stores =
      let s = stores_yes (g.P.Pmap.view c.args.pmap.now) c.args.store.now c.args.words.now c.args.object c.args.x
      (g.P.Pmap.view c.clear_modified.new.self) c.args.page c.in-Some.frame c.in-Some.is (c.if-x-from.false ∙ c.from.ensures)
      (sym c.in_ok-modified.ensures.1 ∙ c.if-not-branch.false) c.in_ok-clear_modified.ensures.meaning.1 in
      record { told = s.told; store = ap (λ z. set c.args.store.now c.args.x (get_or c.args.words.now z 0)) c.from-2.ensures ∙ s.store; held = s.held; marks = s.marks };
  kept = c.in_ok-clear_modified.ensures.kept;
}

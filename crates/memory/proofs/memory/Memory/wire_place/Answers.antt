use Rattle.std.proofs.Common.{◌<◌, length, vec_items, sym, refl, subst, arith}
use Rattle.memory_meaning.specs.Ready.{memory_state, Brings}
use Rattle.memory_meaning.proofs.AccessRules.{wire_served}
use Rattle.memory.specs.Whole.{state}
use Rattle.memory.proofs.Entering.{page_low, enters_wired}
use Rattle.memory.proofs.Kept.{whole_served}
use Rattle.memory.proofs.memory.Memory.wire_place.Goals as goal

pub bring-requires : goal.bring-requires
bring-requires g c = record {
  kept = c.self.invariant.kept;
  good = c.self.invariant.ready.good;
  page = page_low g.P.Pmap.view c.self.inside.parts c.args.space c.args.page c.object_page.result c.in-Some.region c.self.invariant.ready (sym c.in-Some.ensures) c.object_page.ensures;
}

pub returns-in_err-enter-clause-serves : goal.returns-in_err-enter-clause-serves
returns-in_err-enter-clause-serves g c =
    let m = c.self.inside.parts in
    let few : length (vec_items m.tables.wired) < 8 = omega (arith, c.len.ensures, m.tables.wired.ok.0, c.if-len-ge-WIRED_PLACES.false) in
    absurd (enters_wired g.P.Pmap.view m c.args.space c.args.page c.object_page.result c.in-Some.region c.self.invariant.ready (sym c.in-Some.ensures) c.object_page.ensures
    c.bring.new.self c.in_ok-brought.brought (sym c.if-not-fits_place.ensures) c.in_ok-brought.ensures.brings c.in_err-enter.field-0.0 few c.in_err-enter.ensures.meaning.0)

pub invariant_of-self-in_err-enter : goal.invariant_of-self-in_err-enter
invariant_of-self-in_err-enter g c =
    let m = c.self.inside.parts in
    let few : length (vec_items m.tables.wired) < 8 = omega (arith, c.len.ensures, m.tables.wired.ok.0, c.if-len-ge-WIRED_PLACES.false) in
    absurd (enters_wired g.P.Pmap.view m c.args.space c.args.page c.object_page.result c.in-Some.region c.self.invariant.ready (sym c.in-Some.ensures) c.object_page.ensures
    c.bring.new.self c.in_ok-brought.brought (sym c.if-not-fits_place.ensures) c.in_ok-brought.ensures.brings c.in_err-enter.field-0.0 few c.in_err-enter.ensures.meaning.0)

pub returns-clause-serves : goal.returns-clause-serves
returns-clause-serves g c =
    let v = g.P.Pmap.view in
    let m = c.self.inside.parts in
    let e = c.bring.new.self in
    let s = state v m in
    let w = v c.enter.new.self in
    let b = c.in_ok-brought.ensures.brings in
    let few : length (vec_items m.tables.wired) < 8 = omega (arith, c.len.ensures, m.tables.wired.ok.0, c.if-len-ge-WIRED_PLACES.false) in
    rw (← c.self.view_is) (wire_served s c.args.space c.args.page (sym c.if-not-fits_place.ensures) c.in-Some.region (sym c.in-Some.ensures) (sym c.if-is_wired.ensures)
    (v m.pmap) (v e.pmap) w (state v e) (memory_state w c.add_wired.new.self e.counts) c.in_ok-brought.brought.frame c.in_ok-brought.brought.loaded c.in_ok-brought.brought.evicted few
    (subst (λ z. Brings (v m.pmap) (v e.pmap) s (state v e) z c.in_ok-brought.brought.frame c.in_ok-brought.brought.loaded c.in_ok-brought.brought.evicted) c.object_page.ensures b)
    refl c.in_ok-enter.ensures.meaning.1 (c.add_wired.ensures w.modified e.counts))

pub invariant_of-self-2 : goal.invariant_of-self-2
invariant_of-self-2 g c = whole_served g.P.Pmap.view g.P.Pmap.kept _ _ _ _ _ c.self.invariant c.self.view_is (returns-clause-serves g c) c.in_ok-enter.ensures.kept

pub returns-clause-whole : goal.returns-clause-whole
returns-clause-whole g c = invariant_of-self-2 g c

pub returns-in_err-enter-clause-whole : goal.returns-in_err-enter-clause-whole
returns-in_err-enter-clause-whole g c = invariant_of-self-in_err-enter g c

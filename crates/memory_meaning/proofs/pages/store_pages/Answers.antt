use Rattle.std.proofs.Common.{◌≡◌, ℕ, ◌+◌, ◌≤◌, Bool, cond, ap, arith, rules}
use Rattle.memory_meaning.proofs.StoredPages.{stores_none, stores_more}
use Rattle.memory_meaning.proofs.pages.store_pages.Goals as goal

pub loop-x-init : goal.loop-x-init
loop-x-init g c =
    (c.requires.0, stores_none (g.P.Pmap.view c.args.pmap.now) c.args.store.now c.args.words.now c.args.records.now c.args.object, omega arith)

at_most : (n x : ℕ) (b : Bool) → n ≤ x → n + cond b 1 0 ≤ x + 1
at_most n x b h = grind arith

pub loop-x-preserved : goal.loop-x-preserved
loop-x-preserved g c =
    let v = g.P.Pmap.view in
    let step = stores_more (v c.args.pmap.now) c.args.store.now c.args.words.now c.args.records.now c.args.object c.requires.1.1.1.1
    (v c.loop-x.pmap) (v c.store_page.new.pmap) c.loop-x.store c.store_page.new.store c.loop-x.x c.loop-x.stored c.loop-x.invariant.1
    c.in_ok-store_page.field-0 c.in_ok-store_page.ensures.stores (omega arith) in
    let one : c.from.result ≡ cond c.in_ok-store_page.field-0 1 0 = search rules in
    let same = ap (λ z. c.loop-x.stored + z) one in (
      c.in_ok-store_page.ensures.kept,
      rw same step,
      rw same (at_most c.loop-x.stored c.loop-x.x c.in_ok-store_page.field-0 c.loop-x.invariant.2),
    )

use Rattle.std.proofs.Common.{◌≡◌, ◌<◌, length, Some, vec_items, vec_len, sym, ap, ◌∙◌, subst, arith}
use Rattle.std.proofs.lemmas.List.{get_or_read_under}
use Rattle.std.specs.Result.{result_ok}
use Rattle.std.proofs.lemmas.Result.{err_from_is_err_and}
use Rattle.rules.specs.Paging.{load}
use Rattle.memory_meaning.specs.Ready.{memory_state, Brings}
use Rattle.memory_meaning.proofs.Bringing.{brings_unused, brings_none, brings_victim, victim_low, less_used}
use Rattle.memory.specs.Whole.{state}
use Rattle.memory.proofs.Victims.{none_left, all_used, inside, frame_low, owned_low}
use Rattle.memory.proofs.parts.Parts.bring.Goals as goal

pub returns-then-used-from : goal.returns-then-used-from
returns-then-used-from g c =
    let v = g.P.Pmap.view in
    let m = c.args.self.now in
    let s = state v m in
    let n : c.len-used.result ≡ length (vec_items m.tables.queue) = c.len-used.ensures ∙ m.tables.queue.ok.0 in
    let room : length (vec_items m.tables.queue) < m.tables.frames = omega (arith, n, c.if-used-from.true, c.from.ensures) in
    let is = c.load.ensures (v m.pmap).modified m.counts ∙ ap (load s c.args.x) n in
    record {
      brings = subst (λ z. Brings (v m.pmap) (v m.pmap) s (memory_state (v m.pmap) c.load.new.self m.counts) c.args.x z _ _) (sym n)
          (brings_unused (v m.pmap) s c.args.x c.requires.good c.requires.page (sym c.in_default.ensures) (memory_state (v m.pmap) c.load.new.self m.counts) room is);
      kept = c.requires.kept;
    }

pub returns-in_err-at : goal.returns-in_err-at
returns-in_err-at g c =
    let v = g.P.Pmap.view in
    let m = c.args.self.now in
    let p = err_from_is_err_and c.from_residual.result c.from_residual.ensures.1 in
    let gone = none_left _ _ _ _ c.ok_or.ensures.value c.in_err-at.was in
    let full = all_used v m c.args.x _ _ c.from.ensures c.len-used.ensures c.if-used-from.false in
    record {
      brings = rw (p.1, p.2, gone.1) (brings_none (v m.pmap) (state v m) c.args.x c.requires.good c.requires.page (sym c.in_default.ensures) full (sym c.victim.ensures ∙ gone.0));
      kept = c.requires.kept;
    }

pub index-frame-requires : goal.index-frame-requires
index-frame-requires g c =
    inside g.P.Pmap.view c.args.self.now c.args.x _ _ c.from.ensures c.len-used.ensures c.if-used-from.false c.requires.good c.requires.page (sym c.in_default.ensures)
    c.in_ok-at.at (sym c.victim.ensures ∙ c.ok_or.ensures.ok_part ∙ ap result_ok c.in_ok-at.was)

pub evict-requires : goal.evict-requires
evict-requires g c =
    let m = c.args.self.now in
    let here = sym c.victim.ensures ∙ c.ok_or.ensures.ok_part ∙ ap result_ok c.in_ok-at.was in
    record {
      kept = c.requires.kept;
      first = here;
      inside = inside g.P.Pmap.view m c.args.x _ _ c.from.ensures c.len-used.ensures c.if-used-from.false c.requires.good c.requires.page (sym c.in_default.ensures) c.in_ok-at.at here;
      frame = frame_low g.P.Pmap.view m c.args.x _ _ c.from.ensures c.len-used.ensures c.if-used-from.false c.requires.good c.requires.page (sym c.in_default.ensures) c.in_ok-at.at here;
      owner = owned_low g.P.Pmap.view m c.args.x _ _ c.from.ensures c.len-used.ensures c.if-used-from.false c.requires.good c.requires.page (sym c.in_default.ensures) c.in_ok-at.at here;
    }

pub load-requires-2 : goal.load-requires-2
load-requires-2 g c =
    let v = g.P.Pmap.view in
    let m = c.args.self.now in
    let s = state v m in
    let here = sym c.victim.ensures ∙ c.ok_or.ensures.ok_part ∙ ap result_ok c.in_ok-at.was in
    let full = all_used v m c.args.x _ _ c.from.ensures c.len-used.ensures c.if-used-from.false in
    let fits = inside v m c.args.x _ _ c.from.ensures c.len-used.ensures c.if-used-from.false c.requires.good c.requires.page (sym c.in_default.ensures) c.in_ok-at.at here in
    let frame = get_or_read_under (vec_items m.tables.queue) c.in_ok-at.at (vec_len m.tables.queue) c.index-frame.result.now 0 c.index-frame.ensures fits m.tables.queue.ok.0 in
    let low = victim_low (v m.pmap) s c.args.x c.requires.good c.requires.page (sym c.in_default.ensures) full c.in_ok-at.at here in
    let less = less_used (v m.pmap) s c.args.x c.requires.good c.requires.page (sym c.in_default.ensures) full c.in_ok-at.at here in
    let queue = ap (λ z. length z.queue) c.in_ok-evicted.ensures.evicts.state in
    (c.requires.page, (omega (arith, frame, low), omega (arith, less, queue, c.evict.new.self.tables.queue.ok.0)))

pub returns : goal.returns
returns g c =
    let v = g.P.Pmap.view in
    let m = c.args.self.now in
    let e = c.evict.new.self in
    let s = state v m in
    let here = sym c.victim.ensures ∙ c.ok_or.ensures.ok_part ∙ ap result_ok c.in_ok-at.was in
    let full = all_used v m c.args.x _ _ c.from.ensures c.len-used.ensures c.if-used-from.false in
    let fits = inside v m c.args.x _ _ c.from.ensures c.len-used.ensures c.if-used-from.false c.requires.good c.requires.page (sym c.in_default.ensures) c.in_ok-at.at here in
    let frame = get_or_read_under (vec_items m.tables.queue) c.in_ok-at.at (vec_len m.tables.queue) c.index-frame.result.now 0 c.index-frame.ensures fits m.tables.queue.ok.0 in
    let last = memory_state (v e.pmap) c.load-2.new.self e.counts in
    let mid = state v e in
    record {
      brings = subst (λ z. Brings (v m.pmap) (v e.pmap) s last c.args.x z _ (Some c.in_ok-evicted.evicted)) (sym frame)
          (brings_victim (v m.pmap) s c.args.x c.requires.good c.requires.page (sym c.in_default.ensures) full c.in_ok-at.at here
          (v e.pmap) mid last c.in_ok-evicted.evicted c.in_ok-evicted.ensures.evicts
          (c.load-2.ensures (v e.pmap).modified e.counts ∙ ap (load mid c.args.x) frame));
      kept = c.in_ok-evicted.ensures.kept;
    }

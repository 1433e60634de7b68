use Rattle.std.proofs.Common.{◌≡◌, ◌<◌, get_or, vec_items, vec_len, ap, ◌∙◌, arith}
use Rattle.std.proofs.lemmas.List.{get_or_read_under}
use Rattle.memory_meaning.specs.Ready.{memory_state}
use Rattle.memory_meaning.proofs.Evictions.{evicted_by}
use Rattle.memory.specs.Whole.{state}
use Rattle.memory.proofs.parts.Parts.evict.Goals as goal

pub returns : goal.returns
returns g c =
    let v = g.P.Pmap.view in
    let m = c.args.self.now in
    let saved = c.save_modified.new.self in
    let f = c.index-frame.result.now in
    let frame : f ≡ get_or (vec_items m.tables.queue) c.args.at 0 = get_or_read_under (vec_items m.tables.queue) c.args.at _ f 0 c.index-frame.ensures c.requires.inside m.tables.queue.ok.0 in
    let low : c.from.result < vec_len m.tables.owners = omega (arith, frame, c.from.ensures, c.requires.frame) in
    let owned : c.index-page.result.now ≡ get_or (vec_items m.tables.owners) f 0 =
    get_or_read_under (vec_items m.tables.owners) c.from.result (vec_len m.tables.owners) c.index-page.result.now 0 c.index-page.ensures low m.tables.owners.ok.0
    ∙ ap (λ z. get_or (vec_items m.tables.owners) z 0) c.from.ensures in
    record {
      evicts = evicted_by (v m.pmap) (v c.drop_frame.new.self) (v saved.pmap) (state v m) (state v saved)
          c.args.at c.in_ok-stored.stored c.requires.first f c.index-page.result.now frame owned
          c.in_ok-drop_frame.ensures.meaning.1.held c.in_ok-stored.ensures.saves c.in_ok-drop_frame.ensures.meaning.1.marks
          (memory_state (v saved.pmap) c.release.new.self saved.counts) (c.release.ensures (v saved.pmap).modified saved.counts);
      kept = c.in_ok-stored.ensures.kept;
    }

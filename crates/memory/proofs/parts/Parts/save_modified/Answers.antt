use Rattle.std.proofs.Common.{sym, ap, ◌∙◌}
use Rattle.tables.specs.Held.{with_dirty, saved_to}
use Rattle.memory.specs.Whole.{state}
use Rattle.memory.proofs.parts.Parts.save_modified.Goals as goal

pub returns : goal.returns
returns g c =
    let v = g.P.Pmap.view in
    let m = c.args.self.now in
    let w = v c.clear_modified.new.self in
    let un = c.in_ok-clear_modified.ensures.meaning.1 in
    record {
      saves = record {
        was = sym (sym c.in_ok-modified.ensures.1 ∙ c.if-not-branch.false);
        state = c.save.ensures w.modified m.counts ∙ ap (with_dirty (saved_to (state v m) c.args.frame)) un.marks;
        held = un.held;
      };
      kept = c.in_ok-clear_modified.ensures.kept;
    }

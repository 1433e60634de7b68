use Rattle.std.proofs.Common.{[], vec_items, sym, subst}
use Rattle.memory.specs.Whole.{state}
use Rattle.runs.specs.RunLaw.{Trail}
use Rattle.runs.proofs.Trails.{trail_none, run_law}
use Rattle.runs.proofs.run.run.Goals as goal

pub drive-requires : goal.drive-requires
drive-requires g c =
    let s = state g.P.Pmap.view c.in_ok-memory.memory in
    let new = c.in-Ok.ensures in
    record {
      begun = subst (λ z. Trail c.args.frames [] z s) (sym new.items) (trail_none c.args.frames s c.in_ok-memory.ensures.0.state);
      whole = c.in_ok-memory.ensures.1;
      empty = new.len;
      room = new.capacity;
    }

pub returns-clause-law : goal.returns-clause-law
returns-clause-law g c =
    run_law c.args.frames c.args.calls.now (vec_items c.drive.new.replies) (state g.P.Pmap.view c.drive.new.memory) (sym c.if-not-fits_frames.ensures) c.drive.ensures.trail

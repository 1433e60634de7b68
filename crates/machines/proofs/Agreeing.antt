-- Two replays of one trace agree. Assumes nothing.
use Rattle.std.proofs.Common.{ℕ, List, sym, ◌∙◌}
use Rattle.trace.specs.declared.record.Entry.{Entry}
use Rattle.rules.specs.Laws.{Agree}
use Rattle.replays.specs.Replayed.{Replayed}

pub replays_agree : (frames : ℕ) (entries : List Entry) (a b s t : List ℕ) (x : Replayed frames entries a s) (y : Replayed frames entries b t) → Agree x.law.trail.history y.law.trail.history
replays_agree frames entries a b s t x y = x.law.agrees y.law.trail.history y.last y.law.trail.passed (y.law.trail.asked ∙ sym x.law.trail.asked)

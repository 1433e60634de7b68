-- A new memory keeps what a memory keeps. Assumes nothing.
use Rattle.std.proofs.Common.{◌≡◌, ℕ, true, leb, sym, subst, arith}
use Rattle.std.proofs.lemmas.Bool.{and_parts, leb-true}
use Rattle.pmap.specs.Meaning.{View, Cleared}
use Rattle.rules.specs.declared.counts.Counts.{Counts}
use Rattle.rules.specs.State.{State, fresh, no_counts}
use Rattle.rules.proofs.GoodKept.{good_fresh}
use Rattle.memory_meaning.specs.Ready.{Ready}
use Rattle.memory.specs.Making.{fits_frames, Made}
use Rattle.memory_meaning.proofs.Matching.{match_none}

-- counts that are all zero
pub none_counted : (n : Counts) → ((n.calls ≡ 0) × ((n.refused ≡ 0) × ((n.hits ≡ 0) × ((n.soft ≡ 0) × ((n.hard ≡ 0) × ((n.loads ≡ 0) × ((n.evicted ≡ 0) × (n.stored ≡ 0)))))))) → n ≡ no_counts
none_counted n e = λ i. record { calls = e.0 i; refused = e.1.0 i; hits = e.1.1.0 i; soft = e.1.1.1.0 i; hard = e.1.1.1.1.0 i; loads = e.1.1.1.1.1.0 i; evicted = e.1.1.1.1.1.1.0 i; stored = e.1.1.1.1.1.1.1 i }

pub made_new : (n : ℕ) (v : View) (s : State) → fits_frames n ≡ true → Cleared v → s ≡ fresh n → Made n v s
made_new n v s fits cleared is = record {
  fits = fits;
  cleared = cleared;
  state = is;
  ready = subst (Ready v) (sym is) (record {
    good = good_fresh n (leb-true n 256 (and_parts (leb 1 n) (leb n 256) fits).1);
    fits = match_none v.held (fresh n).lies cleared.held;
    bounded = record { calls = omega arith; refused = omega arith; hits = omega arith; soft = omega arith; hard = omega arith; loads = omega arith; evicted = omega arith; stored = omega arith };
  });
}

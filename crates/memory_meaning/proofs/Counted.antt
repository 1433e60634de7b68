-- A served call, counted: what the public call promises. Assumes nothing.
use Rattle.std.proofs.Common.{◌≡◌, ℕ, zero, suc, ◌+◌, ◌/◌, ◌<◌, ◌≤◌, Bool, true, false, cond, not, ◌&&◌, eqb, ltb, leb, length, Some, None, Ok, Err, Option, sym, refl, ap, ◌∙◌, subst, arith}
use Rattle.std.proofs.lemmas.Bool.{cond-true, cond-false, lt-leb, le-leb}
use Rattle.refusal.specs.declared.memory.MemoryRefusal.{MemoryRefusal}
use Rattle.refusal.specs.declared.memory.MemoryRefusal.TheVariants.{CallLimit, Range, Overlap, RegionsFull, ReadOnly, Wired as WiredRefusal, NotWired, WiredFull, NoFrame}
use Rattle.pmap.specs.Meaning.{View}
use Rattle.pmap.specs.Ranges.{fits_place, fits_protection}
use Rattle.pmap.specs.Tally.{tally}
use Rattle.calls.specs.declared.Call.{Call}
use Rattle.calls.specs.declared.Call.TheVariants.{Map, Unmap, Protect, Read, Write, Wire, Unwire, Sync}
use Rattle.rules.specs.declared.answer.Answer.TheVariants.{Done, Read as ReadAnswer, Wrote, Wired, Synced}
use Rattle.rules.specs.declared.answer.Evicted.{Evicted}
use Rattle.rules.specs.declared.answer.Kind.{Kind}
use Rattle.rules.specs.declared.answer.Kind.TheVariants.{Hit, Soft, Hard}
use Rattle.rules.specs.declared.counts.Counts.{Counts}
use Rattle.rules.specs.declared.region.Region.{Region}
use Rattle.rules.specs.Lists.{first, any}
use Rattle.rules.specs.State.{State, lie, page_in, is_modified}
use Rattle.rules.specs.Refusals.{refuse, cover, begins, overlaps, is_place, fits_map, wants_frame, read_refusal, write_refusal, wire_refusal, region_refusal, call_refusal, refusal}
use Rattle.rules.specs.Paging.{evicted_by}
use Rattle.rules.specs.Rules.{Reply, page_at, one, is_kind, of_kind, loads_in, evicted_in, evictions, savings, stored_in, refused_in, is_limit, added, counted, reply_by, reply, moved_by, after, with_counts}
use Rattle.rules.proofs.GoodKept.{good_with_counts}
use Rattle.memory_meaning.specs.Ready.{Ready, Bounded, hits}
use Rattle.memory_meaning.specs.Leaves.{Serves, Leaves}
use Rattle.memory_meaning.proofs.ReadyKept.{ready_map, ready_unmap, ready_protect, ready_unwire, ready_sync}
use Rattle.memory_meaning.proofs.AccessReady.{ready_read, ready_write, ready_wire}

-- no more numbers pass a test than there are
tally_most : (test : ℕ → Bool) (n : ℕ) → tally test n ≤ n
unfolding tally
tally_most test zero = omega arith
tally_most test (suc n) = let less = tally_most test n in at (test n) less
  where
    at : (b : Bool) → tally test n ≤ n → cond b 1 0 + tally test n ≤ suc n
    at true less = omega arith
    at false less = omega arith

one_most : (b : Bool) → one b ≤ 1
one_most true = omega arith
one_most false = omega arith

savings_most : (o : Option Evicted) → savings o ≤ 1
savings_most None = omega arith
savings_most (Some e) = one_most e.stored

evictions_most : (o : Option Evicted) → evictions o ≤ 1
evictions_most None = omega arith
evictions_most (Some e) = omega arith

-- what a reply adds
pub stored_few : (s : State) (c : Call) (hit : Bool) (o : Option MemoryRefusal) → stored_in (reply_by s c hit o) ≤ 2048
stored_few s c hit (Some e) = omega arith
stored_few s (Map a p count object offset q) hit None = omega arith
stored_few s (Unmap a p) hit None = omega arith
stored_few s (Protect a p q) hit None = omega arith
stored_few s (Read a p) hit None = omega (arith, savings_most (evicted_by s (lie s (page_at s a p))))
stored_few s (Write a p w) hit None = omega (arith, savings_most (evicted_by s (lie s (page_at s a p))))
stored_few s (Wire a p) hit None = omega (arith, savings_most (evicted_by s (lie s (page_at s a p))))
stored_few s (Unwire a p) hit None = omega arith
stored_few s (Sync o) hit None = tally_most (λ x. eqb (x / 256) o && is_modified s x) 2048

kind_most : (k : Kind) (r : Reply) → of_kind k r ≤ 1
kind_most k (Err e) = omega arith
kind_most k (Ok Done) = omega arith
kind_most k (Ok (ReadAnswer r)) = one_most (is_kind k r.report.kind)
kind_most k (Ok (Wrote r)) = one_most (is_kind k r.kind)
kind_most k (Ok (Wired w)) = omega arith
kind_most k (Ok (Synced n)) = omega arith

loads_most : (r : Reply) → loads_in r ≤ 1
loads_most (Err e) = omega arith
loads_most (Ok Done) = omega arith
loads_most (Ok (ReadAnswer r)) = one_most (is_kind Hard r.report.kind)
loads_most (Ok (Wrote r)) = one_most (is_kind Hard r.kind)
loads_most (Ok (Wired w)) = one_most w.loaded
loads_most (Ok (Synced n)) = omega arith

refused_most : (r : Reply) → refused_in r ≤ 1
refused_most (Err e) = omega arith
refused_most (Ok a) = omega arith

pub bounded_added : (n : Counts) (r : Reply) → Bounded n → n.calls < 1000000 → stored_in r ≤ 2048 → Bounded (added n r)
bounded_added n r b less few = record {
  calls = omega arith;
  refused = omega (arith, refused_most r);
  hits = omega (arith, kind_most Hit r);
  soft = omega (arith, kind_most Soft r);
  hard = omega (arith, kind_most Hard r);
  loads = omega (arith, loads_most r);
  evicted = omega (arith, evictions_most (evicted_in r));
  stored = omega arith;
}

-- a call is not refused for too many calls, but by the limit itself
abbrev limits : Option MemoryRefusal → Bool
limits None = false
limits (Some e) = is_limit (Err e)

refuse_limits : (b : Bool) (e : MemoryRefusal) (o : Option MemoryRefusal) → is_limit (Err e) ≡ false → limits o ≡ false → limits (refuse b e o) ≡ false
refuse_limits true e o x y = x
refuse_limits false e o x y = y

wants_limits : (s : State) (o : Option ℕ) → limits (wants_frame s o) ≡ false
wants_limits s None = refuse_limits _ NoFrame None refl refl
wants_limits s (Some f) = refl

region_limits : (s : State) (o : Option Region) → limits (region_refusal s o) ≡ false
region_limits s None = refl
region_limits s (Some r) = refuse_limits _ WiredRefusal None refl refl

read_limits : (s : State) (p : ℕ) (o : Option Region) → limits (read_refusal s p o) ≡ false
read_limits s p None = refl
read_limits s p (Some r) = wants_limits s (lie s (page_in r p))

write_limits : (s : State) (p : ℕ) (o : Option Region) → limits (write_refusal s p o) ≡ false
write_limits s p None = refl
write_limits s p (Some r) = refuse_limits _ ReadOnly (wants_frame s (lie s (page_in r p))) refl (wants_limits s (lie s (page_in r p)))

wire_limits : (s : State) (a p : ℕ) (o : Option Region) → limits (wire_refusal s a p o) ≡ false
wire_limits s a p None = refl
wire_limits s a p (Some r) =
    refuse_limits (any (is_place a p) s.wired) WiredRefusal (refuse (leb 8 (length s.wired)) WiredFull (wants_frame s (lie s (page_in r p)))) refl
    (refuse_limits (leb 8 (length s.wired)) WiredFull (wants_frame s (lie s (page_in r p))) refl (wants_limits s (lie s (page_in r p))))

call_limits : (s : State) (c : Call) → limits (call_refusal s c) ≡ false
call_limits s (Map a p count object offset q) =
    refuse_limits (not (fits_map a p count object offset q)) Range (refuse (any (overlaps a p count) s.regions) Overlap (refuse (leb 64 (length s.regions)) RegionsFull None)) refl
    (refuse_limits (any (overlaps a p count) s.regions) Overlap (refuse (leb 64 (length s.regions)) RegionsFull None) refl
    (refuse_limits (leb 64 (length s.regions)) RegionsFull None refl refl))
call_limits s (Unmap a p) = refuse_limits (not (fits_place a p)) Range (region_refusal s (first (begins a p) s.regions)) refl (region_limits s (first (begins a p) s.regions))
call_limits s (Protect a p q) = refuse_limits (not (fits_place a p && fits_protection q)) Range (region_refusal s (first (begins a p) s.regions)) refl (region_limits s (first (begins a p) s.regions))
call_limits s (Read a p) = refuse_limits (not (fits_place a p)) Range (read_refusal s p (cover s.regions a p)) refl (read_limits s p (cover s.regions a p))
call_limits s (Write a p w) = refuse_limits (not (fits_place a p)) Range (write_refusal s p (cover s.regions a p)) refl (write_limits s p (cover s.regions a p))
call_limits s (Wire a p) = refuse_limits (not (fits_place a p)) Range (wire_refusal s a p (cover s.regions a p)) refl (wire_limits s a p (cover s.regions a p))
call_limits s (Unwire a p) =
    refuse_limits (not (fits_place a p)) Range (refuse (not (any (is_place a p) s.wired)) NotWired None) refl
    (refuse_limits (not (any (is_place a p) s.wired)) NotWired None refl refl)
call_limits s (Sync o) = refuse_limits (not (ltb o 8)) Range None refl refl

reply_limits : (s : State) (c : Call) (hit : Bool) (o : Option MemoryRefusal) → limits o ≡ false → is_limit (reply_by s c hit o) ≡ false
reply_limits s c hit None e = refl
reply_limits s c hit (Some x) e = e

-- what every call leaves
pub ready_served : (v w : View) (s t : State) (c : Call) (r : Reply) → Ready v s → Serves v w s t c r → Ready w t
ready_served v w s t (Map a p count object offset q) r ready = ready_map v w s t ready r a p count object offset q
ready_served v w s t (Unmap a p) r ready = ready_unmap v w s t ready r a p
ready_served v w s t (Protect a p q) r ready = ready_protect v w s t ready r a p q
ready_served v w s t (Read a p) r ready = ready_read v w s t ready r a p
ready_served v w s t (Write a p word) r ready = ready_write v w s t ready r a p word
ready_served v w s t (Wire a p) r ready = ready_wire v w s t ready r a p
ready_served v w s t (Unwire a p) r ready = ready_unwire v w s t ready r a p
ready_served v w s t (Sync o) r ready = ready_sync v w s t ready r o

-- a served call, counted
module _ (v w : View) (s t : State) (c : Call) (r : Reply) (ready : Ready v s) (less : s.counts.calls < 1000000) (served : Serves v w s t c r) where
  refusal_is : refusal s c ≡ call_refusal s c
  refusal_is = cond-false _ _ _ (lt-leb _ _ less)

  pub few_stored : stored_in r ≤ 2048
  few_stored = subst (λ z. stored_in z ≤ 2048) (sym served.answer) (stored_few s c (hits v c) (call_refusal s c))

  pub called_answer : r ≡ reply s c (hits v c)
  called_answer = served.answer ∙ ap (reply_by s c (hits v c)) (sym refusal_is)

  pub called_state : with_counts t (added s.counts r) ≡ after s c (hits v c)
  called_state =
      ap (λ z. with_counts z (added s.counts r)) (served.state ∙ ap (moved_by s c) (sym refusal_is))
      ∙ ap (with_counts (moved_by s c (refusal s c)))
      (sym (cond-false (is_limit r) s.counts (added s.counts r) (ap is_limit served.answer ∙ reply_limits s c (hits v c) (call_refusal s c) (call_limits s c)))
      ∙ ap (counted s.counts) called_answer)

  pub called_view : Leaves v w s c (refusal s c)
  called_view = subst (Leaves v w s c) (sym refusal_is) served.view

  pub called_ready : Ready w (with_counts t (added s.counts r))
  called_ready =
      let after_it = ready_served v w s t c r ready served in
      record { good = good_with_counts t (added s.counts r) after_it.good; fits = after_it.fits; bounded = bounded_added s.counts r ready.bounded less few_stored }

-- at the limit every call is refused, and no count moves
module _ (v : View) (s : State) (c : Call) (full : 1000000 ≤ s.counts.calls) where
  limited : refusal s c ≡ Some CallLimit
  limited = cond-true _ _ _ (le-leb _ _ full)

  pub limit_answer : Err CallLimit ≡ reply s c (hits v c)
  limit_answer = sym (ap (reply_by s c (hits v c)) limited)

  pub limit_state : s ≡ after s c (hits v c)
  limit_state = sym (ap (λ z. with_counts z (counted s.counts (reply s c (hits v c)))) (ap (moved_by s c) limited) ∙ ap (λ z. with_counts s (counted s.counts z)) (sym limit_answer))

  pub limit_view : Leaves v v s c (refusal s c)
  limit_view = subst (Leaves v v s c) (sym limited) (λ a b. refl)

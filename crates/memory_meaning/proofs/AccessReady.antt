-- Reads, writes and wires leave what a memory keeps; what the pmap may say of them. Assumes nothing.
use Rattle.std.proofs.Common.{◌≡◌, ℕ, ◌<◌, Bool, true, false, cond, not, eqb, length, is_some, Some, None, Option, sym, refl, ap, ◌∙◌, subst, ⊎_elim, arith}
use Rattle.std.proofs.lemmas.Bool.{cases_Bool, both_ways, eq-eqb, eqb-false}
use Rattle.refusal.specs.declared.memory.MemoryRefusal.TheVariants.{Range, ReadOnly, Wired as WiredRefusal}
use Rattle.pmap.specs.Ranges.{fits_place}
use Rattle.pmap.specs.Meaning.{Mapping, View}
use Rattle.calls.specs.declared.Call.{Call}
use Rattle.calls.specs.declared.Call.TheVariants.{Map, Unmap, Protect, Read, Write, Wire, Unwire, Sync}
use Rattle.rules.specs.declared.region.Region.{Region}
use Rattle.rules.specs.Lists.{any}
use Rattle.rules.specs.State.{State, lie, page_in}
use Rattle.rules.specs.Refusals.{cover, is_place, free, on_frame, call_refusal, write_refusal, wire_refusal, wants_frame}
use Rattle.rules.specs.Paging.{load, evict, owner, victim, unused, resident, resident_by, evicted_by, replaced, written_to}
use Rattle.rules.specs.Rules.{Reply, page_at, written, wired_at, wired_to}
use Rattle.rules.specs.Good.{Good}
use Rattle.rules.specs.History.{May}
use Rattle.rules.proofs.Lists.{first_some, first_passes, first_all_of}
use Rattle.rules.proofs.Queues.{first_has}
use Rattle.rules.proofs.Loads.{owner_low, lie_evict}
use Rattle.rules.proofs.GoodKept.{Brought, refuse_none, brings}
use Rattle.rules.proofs.Accepted.{Reaches, read_passed, write_passed, wire_passed, not_limited, covered}
use Rattle.memory_meaning.specs.Matches.{HeldWired, Matches}
use Rattle.memory_meaning.specs.Ready.{Ready, serves, hits, evictee, dropped_by}
use Rattle.memory_meaning.specs.Leaves.{Serves, Touches, Enters, mapping_for, entered}
use Rattle.memory_meaning.proofs.Firsts.{none_some, place_test}
use Rattle.memory_meaning.proofs.Matching.{match_stays, match_enter, match_wire, match_evict, match_load}
use Rattle.memory_meaning.proofs.Reached.{page_at_is, right_is}
use Rattle.memory_meaning.proofs.ReadyKept.{ready_by}

-- bringing a page in moves no count
resident_counts : (s : State) (x : ℕ) → (resident s x).counts ≡ s.counts
resident_counts s x = by (lie s x)
  where
    out : (o : Option ℕ) → (replaced s x o).counts ≡ s.counts
    out None = refl
    out (Some f) = refl

    new : (b : Bool) → (cond b (load s x (length s.queue)) (replaced s x (victim s))).counts ≡ s.counts
    new true = refl
    new false = out (victim s)

    by : (o : Option ℕ) → (resident_by s x o).counts ≡ s.counts
    by None = new (unused s)
    by (Some f) = refl

written_counts : (s : State) (w : ℕ) (o : Option ℕ) → (written_to s w o).counts ≡ s.counts
written_counts s w None = refl
written_counts s w (Some f) = refl

wired_counts : (s : State) (a p : ℕ) (o : Option ℕ) → (wired_to s a p o).counts ≡ s.counts
wired_counts s a p None = refl
wired_counts s a p (Some f) = refl

abbrev Fits : (ℕ → ℕ → Option Mapping) → State → Type 0
Fits h t = Matches h t.regions t.lies t.wired

-- an object page is brought in: the mappings of the evicted frame are gone
match_brought : (h : ℕ → ℕ → Option Mapping) (s : State) (x : ℕ) → Good s → x < 2048 → Fits h s → Fits (λ c d. dropped_by (evictee s (lie s x)) (h c d)) (resident s x)
match_brought h s x good low fits = by (lie s x) refl
  where
    out : lie s x ≡ None → (o : Option ℕ) → victim s ≡ o → Fits (λ c d. dropped_by o (h c d)) (replaced s x o)
    out absent None e = fits
    out absent (Some f) e = match_load k k s.regions (evict s f).lies s.wired gone x f (lie_evict s f good used x other ∙ absent)
      where
        k : ℕ → ℕ → Option Mapping
        k c d = dropped_by (Some f) (h c d)

        used : any (eqb f) s.queue ≡ true
        used = first_has (free s.wired) s.queue f e

        other : x ≡ owner s f → ⊥
        other q = none_some (sym absent ∙ ap (lie s) q ∙ good.owner_lies f used)

        gone : Matches k s.regions (evict s f).lies s.wired
        gone = match_evict h k s.regions s.lies s.wired fits f (owner s f)
            (let low = owner_low s f good used in omega (arith, low, good.lies_long))
            (λ y q. sym (good.lies_owned y f q)) (good.owner_lies f used)
            (not_from (any (on_frame f) s.wired) (first_passes (free s.wired) s.queue f e))
            (λ c d. refl)
          where
            not_from : (b : Bool) → not b ≡ true → b ≡ false
            not_from true q = absurd (both_ways false refl q)
            not_from false q = refl

    new : lie s x ≡ None → (b : Bool) → Fits (λ c d. dropped_by (cond b None (victim s)) (h c d)) (cond b (load s x (length s.queue)) (replaced s x (victim s)))
    new absent true = match_load h h s.regions s.lies s.wired fits x (length s.queue) absent
    new absent false = out absent (victim s) refl

    by : (o : Option ℕ) → lie s x ≡ o → Fits (λ c d. dropped_by (evictee s o) (h c d)) (resident_by s x o)
    by None e = new e (unused s)
    by (Some f) e = fits

-- a wired place's mapping serves every access that is accepted
wired_held : (v : View) (s : State) (a p : ℕ) → Fits v.held s → any (is_place a p) s.wired ≡ true → (r : Region) × (cover s.regions a p ≡ Some r) × ((f : ℕ) × (v.held a p ≡ Some (f, r.protection, true)))
wired_held v s a p fits listed =
    let x = first_some (is_place a p) s.wired listed in
    let held = first_all_of (is_place a p) (HeldWired v.held s.regions) s.wired x.0 fits.wired x.1 in
    let same = place_test a p x.0 (first_passes (is_place a p) s.wired x.0 x.1) in (
      held.region,
      ap (λ z. cover s.regions z p) (sym same.0) ∙ ap (cover s.regions x.0.space) (sym same.1) ∙ held.covers,
      (x.0.frame, ap (λ z. v.held z p) (sym same.0) ∙ ap (v.held x.0.space) (sym same.1) ∙ held.holds),
    )

reads_wired : (v : View) (s : State) (a p : ℕ) → Fits v.held s → any (is_place a p) s.wired ≡ true → serves (v.held a p) false ≡ true
reads_wired v s a p fits listed = let x = wired_held v s a p fits listed in ap (λ z. serves z false) x.2.1

writes_wired : (v : View) (s : State) (a p w : ℕ) → Good s → Fits v.held s → call_refusal s (Write a p w) ≡ None → any (is_place a p) s.wired ≡ true → serves (v.held a p) true ≡ true
writes_wired v s a p w good fits passes listed =
    let x = wired_held v s a p fits listed in
    let r = x.0 in
    let in_place = (refuse_none (not (fits_place a p)) Range (write_refusal s p (cover s.regions a p)) passes).1 in
    let open_to : write_refusal s p (Some r) ≡ None = ap (write_refusal s p) (sym x.1) ∙ in_place in
    let not_one = (refuse_none (eqb r.protection 1) ReadOnly (wants_frame s (lie s (page_in r p))) open_to).0 in
    let three = right_is r (covered s a p r good x.1).fits (eqb-false _ _ not_one) in
    ap (λ z. serves z true) x.2.1 ∙ eq-eqb r.protection 3 three

-- what is held at the place of a hit is resident
hit_lies : (v : View) (s : State) (a p : ℕ) (write : Bool) → Fits v.held s → serves (v.held a p) write ≡ true → (f : ℕ) × (lie s (page_at s a p) ≡ Some f)
hit_lies v s a p write fits hit = by (v.held a p) refl hit
  where
    by : (o : Option Mapping) → v.held a p ≡ o → serves o write ≡ true → (f : ℕ) × (lie s (page_at s a p) ≡ Some f)
    by None e h = absurd (both_ways false refl h)
    by (Some m) e h = let x = fits.covered a p m e in (m.0, ap (lie s) (page_at_is s a p x.region x.covers) ∙ x.lies)

-- the fit after a read or write, and after a wire
module _ (v w : View) (s : State) (ready : Ready v s) (a p : ℕ) (r : Reaches s a p) where
  b : Brought s (resident s (page_at s a p)) (page_at s a p) (evicted_by s (lie s (page_at s a p)))
  b = brings s (page_at s a p) ready.good r.low r.room

  entered_is : (wired : Bool) → entered s a p wired ≡ Some (b.frame, r.region.protection, wired)
  unfolding b
  entered_is wired = ap (λ z. mapping_for z (lie (resident s (page_at s a p)) (page_at s a p)) wired) r.found ∙ ap (λ z. mapping_for (Some r.region) z wired) b.lies

  touched : (write : Bool) → (any (is_place a p) s.wired ≡ true → serves (v.held a p) write ≡ true) → Touches v w s a p (serves (v.held a p) write) → Fits w.held (resident s (page_at s a p))
  unfolding b
  touched write wired-hits leaves = ⊎_elim
      (λ (hit : serves (v.held a p) write ≡ true).
      let f = subst (Touches v w s a p) hit leaves in
      let lies = hit_lies v s a p write ready.fits hit in
      subst (Fits w.held) (sym (ap (resident_by s (page_at s a p)) lies.1))
      (match_stays v.held w.held s.regions s.lies s.wired ready.fits f.others))
      (λ (miss : serves (v.held a p) write ≡ false).
      let e = subst (Touches v w s a p) miss leaves in
      let t = resident s (page_at s a p) in
      let not_wired : any (is_place a p) s.wired ≡ false = ⊎_elim (λ y. absurd (both_ways _ miss (wired-hits y))) (λ n. n) (cases_Bool (any (is_place a p) s.wired)) in
      match_enter (λ c d. dropped_by (evictee s (lie s (page_at s a p))) (v.held c d)) w.held t.regions t.lies t.wired
      (match_brought v.held s (page_at s a p) ready.good r.low ready.fits) a p b.frame r.region
      (ap (λ z. cover z a p) b.regions ∙ r.found) (ap (lie t) (sym r.page) ∙ b.lies)
      (ap (any (is_place a p)) b.wired ∙ not_wired) (e.here ∙ entered_is false) e.others)
      (cases_Bool (serves (v.held a p) write))

  wired_fits : any (is_place a p) s.wired ≡ false → Enters v w s a p true → Fits w.held (wired_at s a p (page_at s a p))
  unfolding b
  wired_fits new e =
      let t = resident s (page_at s a p) in
      subst (λ z. Fits w.held (wired_to t a p z)) (sym b.lies)
      (match_wire (λ c d. dropped_by (evictee s (lie s (page_at s a p))) (v.held c d)) w.held t.regions t.lies t.wired
      (match_brought v.held s (page_at s a p) ready.good r.low ready.fits) a p b.frame r.region
      (ap (λ z. cover z a p) b.regions ∙ r.found) (ap (lie t) (sym r.page) ∙ b.lies)
      (ap (any (is_place a p)) b.wired ∙ new) (e.here ∙ entered_is true) e.others)

  written_fits : (word : ℕ) → Fits w.held (resident s (page_at s a p)) → Fits w.held (written s (page_at s a p) word)
  unfolding b
  written_fits word fits = subst (λ z. Fits w.held (written_to (resident s (page_at s a p)) word z)) (sym b.lies) fits

module _ (v w : View) (s t : State) (ready : Ready v s) (r : Reply) where
  pub ready_read : (a p : ℕ) → Serves v w s t (Read a p) r → Ready w t
  ready_read a p = ready_by v w s t (Read a p) ready r
      (λ is leaves. touched v w s ready a p (read_passed s a p ready.good is) false (λ y. reads_wired v s a p ready.fits y) leaves)
      (resident_counts s (page_at s a p))

  pub ready_write : (a p word : ℕ) → Serves v w s t (Write a p word) r → Ready w t
  ready_write a p word = ready_by v w s t (Write a p word) ready r
      (λ is leaves.
      let reached = write_passed s a p word ready.good is in
      written_fits v w s ready a p reached word
      (touched v w s ready a p reached true (λ y. writes_wired v s a p word ready.good ready.fits is y) leaves))
      (written_counts (resident s (page_at s a p)) word (lie (resident s (page_at s a p)) (page_at s a p)) ∙ resident_counts s (page_at s a p))

  pub ready_wire : (a p : ℕ) → Serves v w s t (Wire a p) r → Ready w t
  ready_wire a p = ready_by v w s t (Wire a p) ready r
      (λ is leaves.
      let reached = (wire_passed s a p ready.good is).0 in
      let at : wire_refusal s a p (Some reached.region) ≡ None = ap (wire_refusal s a p) (sym reached.found) ∙ (refuse_none (not (fits_place a p)) Range (wire_refusal s a p (cover s.regions a p)) is).1 in
      wired_fits v w s ready a p reached (refuse_none (any (is_place a p) s.wired) WiredRefusal _ at).0 leaves)
      (wired_counts (resident s (page_at s a p)) a p (lie (resident s (page_at s a p)) (page_at s a p)) ∙ resident_counts s (page_at s a p))

-- what the pmap says of a call is what it may say
pub may_say : (v : View) (s : State) (c : Call) → Ready v s → May s c (hits v c)
may_say v s (Map a p count object offset q) ready = tt
may_say v s (Unmap a p) ready = tt
may_say v s (Protect a p q) ready = tt
may_say v s (Read a p) ready = record {
  lies = λ hit. ap is_some (hit_lies v s a p false ready.fits hit).1;
  holds = λ passes listed. reads_wired v s a p ready.fits listed;
}
may_say v s (Write a p w) ready = record {
  lies = λ hit. ap is_some (hit_lies v s a p true ready.fits hit).1;
  holds = λ passes listed. writes_wired v s a p w ready.good ready.fits (not_limited s (Write a p w) passes) listed;
}
may_say v s (Wire a p) ready = tt
may_say v s (Unwire a p) ready = tt
may_say v s (Sync o) ready = tt

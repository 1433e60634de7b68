-- An access carried to its frame: a hit, or a fault and the access again. Assumes nothing.
use Rattle.std.proofs.Common.{◌≡◌, ℕ, Bool, true, false, cond, eqb, Some, None, Option, sym, refl, ap, ◌∙◌, subst, inl, inr, ⊎_elim, arith}
use Rattle.std.proofs.lemmas.Bool.{cases_Bool, cond-true, cond-false, both_ways, and_parts, and_from, or_cases, eqb-true, lt-ltb}
use Rattle.refusal.specs.declared.pmap.PmapRefusal.{PmapRefusal}
use Rattle.refusal.specs.declared.pmap.PmapRefusal.TheVariants.{Range, WiredFull}
use Rattle.pmap.specs.Ranges.{fits_place, fits_protection, fits_entry}
use Rattle.pmap.specs.Meaning.{Mapping, View, EnterRefused, Stays, PutForgetting, is_wired, allows, answered, marked}
use Rattle.pmap.specs.declared.access.Access.TheVariants.{Hit, Miss}
use Rattle.rules.specs.declared.answer.Kind.TheVariants.{Hit as HitKind, Soft, Hard}
use Rattle.rules.specs.declared.answer.Evicted.{Evicted}
use Rattle.rules.specs.declared.region.Region.{Region}
use Rattle.rules.specs.State.{State, lie, page_in}
use Rattle.rules.specs.Refusals.{cover, wants_frame}
use Rattle.rules.specs.Paging.{resident, resident_by, evicted_by}
use Rattle.rules.specs.Rules.{page_at, object_page, report_of, kind_of}
use Rattle.rules.specs.Good.{Good, RegionFits}
use Rattle.rules.proofs.Loads.{used_low}
use Rattle.tables.specs.Held.{with_dirty}
use Rattle.memory_meaning.specs.Matches.{Matches}
use Rattle.memory_meaning.specs.Ready.{Brings, serves, evictee, dropped_by, is_none}
use Rattle.memory_meaning.specs.Leaves.{Touches, mapping_for}
use Rattle.memory_meaning.specs.Reaching.{Reaches}
use Rattle.memory_meaning.proofs.Firsts.{some_inj}
use Rattle.memory_meaning.proofs.Matching.{cases_place}

-- a mapping that stays twice stays
pub stays_trans : (x y z : Option Mapping) → Stays x y → Stays y z → Stays x z
stays_trans x y z first second = ⊎_elim
    (λ (e : y ≡ x). ⊎_elim (λ q. inl (q ∙ e)) (λ n. inr (n.0, ap is_wired (sym e) ∙ n.1)) second)
    (λ n. inr (⊎_elim (λ q. q ∙ n.0) (λ k. k.0) second, n.1))
    first

-- a put that may forget leaves each place as it was, or empty where it was not wired
pub forgets_all : (v w : View) (a p : ℕ) (marks : ℕ → Bool) → PutForgetting v w a p (v.held a p) marks → (c d : ℕ) → Stays (v.held c d) (w.held c d)
forgets_all v w a p marks put c d = ⊎_elim
    (λ at. inl (ap (λ z. w.held z d) at.0 ∙ ap (w.held a) at.1 ∙ put.here ∙ sym (ap (λ z. v.held z d) at.0 ∙ ap (v.held a) at.1)))
    (λ far. put.others c d far)
    (cases_place a p c d)

hit_miss : {f : ℕ} → Hit f ≡ Miss → ⊥
hit_miss e = let z : ◌≡◌ {A = ℕ} 0 1 = cc in omega arith

hit_inj : {f g : ℕ} → Hit f ≡ Hit g → f ≡ g
hit_inj e = cc

-- what a mapping serves is what it answers
pub serves_hit : (o : Option Mapping) (write : Bool) (f : ℕ) → Hit f ≡ answered o write → (serves o write ≡ true) × ((m : Mapping) × (o ≡ Some m) × (m.0 ≡ f))
serves_hit None write f e = absurd (hit_miss e)
serves_hit (Some m) write f e = ⊎_elim
    (λ (y : allows m.1 write ≡ true). (y, (m, refl, sym (hit_inj (e ∙ cond-true _ _ _ y)))))
    (λ (y : allows m.1 write ≡ false). absurd (hit_miss (e ∙ cond-false _ _ _ y)))
    (cases_Bool (allows m.1 write))

pub serves_miss : (o : Option Mapping) (write : Bool) → Miss ≡ answered o write → serves o write ≡ false
serves_miss None write e = refl
serves_miss (Some m) write e = ⊎_elim
    (λ (y : allows m.1 write ≡ true). absurd (hit_miss (sym (e ∙ cond-true _ _ _ y))))
    (λ (y : allows m.1 write ≡ false). y)
    (cases_Bool (allows m.1 write))

-- a place's object page
pub page_at_is : (s : State) (a p : ℕ) (r : Region) → cover s.regions a p ≡ Some r → page_at s a p ≡ page_in r p
page_at_is s a p r e = ap (λ z. object_page z p) e

-- a hit
pub reaches_hit : (v w : View) (s : State) (a p f : ℕ) (write : Bool) → Matches v.held s.regions s.lies s.wired → s.dirty ≡ v.modified → Hit f ≡ answered (v.held a p) write → PutForgetting v w a p (v.held a p) (marked v.modified write f) → Reaches v w s (with_dirty s w.modified) a p write f (record { kind = HitKind; evicted = None })
reaches_hit v w s a p f write fits dirty hit put =
    let is = serves_hit (v.held a p) write f hit in
    let x = fits.covered a p is.1.0 is.1.1 in
    let lies : lie s (page_at s a p) ≡ Some f = ap (lie s) (page_at_is s a p x.region x.covers) ∙ x.lies ∙ ap Some is.1.2 in
    let still : resident s (page_at s a p) ≡ s = ap (resident_by s (page_at s a p)) lies in
    record {
      room = ap (wants_frame s) lies;
      reported = sym (ap (λ z. record { kind = kind_of z (lie s (page_at s a p)); evicted = evicted_by s (lie s (page_at s a p)) }) is.0 ∙ ap (λ z. record { kind = HitKind; evicted = evicted_by s z }) lies);
      lies = ap (λ z. lie z (page_at s a p)) still ∙ lies;
      state = ap (with_dirty s) (put.marked ∙ ap (λ d. marked d write f) (sym dirty)) ∙ sym (ap (λ z. with_dirty z (marked z.dirty write f)) still);
      view = subst (Touches v w s a p) (sym is.0) (record { here = put.here; others = forgets_all v w a p (marked v.modified write f) put });
    }

-- a fault: the object page is brought in, its mapping entered, and the access hits
module _ (v x y w : View) (s t : State) (a p f g : ℕ) (write loaded : Bool) (out : Option Evicted) (r : Region)
    (cov : cover s.regions a p ≡ Some r)
    (missed : serves (v.held a p) write ≡ false)
    (brings : Brings v x s t (page_in r p) f loaded out)
    (dirty : t.dirty ≡ x.modified)
    (puts : PutForgetting x y a p (Some (f, r.protection, false)) x.modified)
    (hit : Hit g ≡ answered (y.held a p) write)
    (keeps : PutForgetting y w a p (y.held a p) (marked y.modified write g)) where
  at : page_at s a p ≡ page_in r p
  at = page_at_is s a p r cov

  same_frame : g ≡ f
  same_frame =
      let is = serves_hit (y.held a p) write g hit in
      sym is.1.2 ∙ ap (λ z. z.0) (some_inj (sym is.1.1 ∙ puts.here))

  kind_is : (o : Option ℕ) → loaded ≡ is_none o → cond loaded Hard Soft ≡ kind_of false o
  kind_is None e = cond-true _ _ _ e
  kind_is (Some h) e = cond-false _ _ _ e

  lies_at : lie (resident s (page_at s a p)) (page_at s a p) ≡ Some f
  lies_at = ap (λ z. lie (resident s z) z) at ∙ brings.lies

  pub reaches_fault : Reaches v w s (with_dirty t w.modified) a p write g (record { kind = cond loaded Hard Soft; evicted = out })
  reaches_fault = record {
    room = ap (λ z. wants_frame s (lie s z)) at ∙ brings.room;
    reported =
        ap (λ z. record { kind = z; evicted = out }) (kind_is (lie s (page_in r p)) brings.told)
        ∙ ap (λ z. record { kind = kind_of false (lie s (page_in r p)); evicted = z }) brings.out
        ∙ ap (λ z. record { kind = kind_of z (lie s (page_in r p)); evicted = evicted_by s (lie s (page_in r p)) }) (sym missed)
        ∙ ap (λ z. report_of s z (serves (v.held a p) write)) (sym at);
    lies = lies_at ∙ ap Some (sym same_frame);
    state =
        ap (with_dirty t) (keeps.marked ∙ ap (λ d. marked d write g) (puts.marked ∙ sym dirty))
        ∙ ap (λ z. with_dirty z (marked z.dirty write g)) brings.state
        ∙ ap (λ z. with_dirty (resident s z) (marked (resident s z).dirty write g)) (sym at);
    view = subst (Touches v w s a p) (sym missed) (record {
      here = keeps.here ∙ puts.here ∙ sym (ap (λ z. mapping_for z (lie (resident s (page_at s a p)) (page_at s a p)) false) cov ∙ ap (λ z. mapping_for (Some r) z false) lies_at);
      others = λ c d far.
          stays_trans (dropped_by (evictee s (lie s (page_at s a p))) (v.held c d)) (y.held c d) (w.held c d)
          (subst (λ z. Stays z (y.held c d)) (brings.held c d ∙ ap (λ z. dropped_by (evictee s (lie s z)) (v.held c d)) (sym at)) (puts.others c d far))
          (keeps.others c d far);
    });
  }

-- an unwired enter of numbers in range is not refused
pub enter_passes : (v : View) (a p f q : ℕ) (e : PmapRefusal) → fits_entry a p f q ≡ true → EnterRefused v a p f q false e → ⊥
enter_passes v a p f q Range fits refused = both_ways _ refused fits
enter_passes v a p f q WiredFull fits refused = both_ways false refl refused.1

-- the numbers of an enter for a covered place are in range
pub entry_fits : (s : State) (a p x f : ℕ) (r : Region) → Good s → fits_place a p ≡ true → RegionFits r → lie s x ≡ Some f → fits_entry a p f r.protection ≡ true
entry_fits s a p x f r good place fits lies =
    let low = used_low s f good (good.lies_used x f lies) in
    let parts = and_parts (fits_place r.space r.first) _ fits in
    and_from _ _ place (and_from _ _ (lt-ltb _ _ low) (and_parts (fits_protection r.protection) _ parts.1).0)

-- a protection that is not 1 is 3
pub right_is : (r : Region) → RegionFits r → (r.protection ≡ 1 → ⊥) → r.protection ≡ 3
right_is r fits far =
    let parts = and_parts (fits_place r.space r.first) _ fits in
    ⊎_elim
    (λ e. absurd (far (eqb-true _ _ e)))
    (λ e. eqb-true _ _ e)
    (or_cases (eqb r.protection 1) (eqb r.protection 3) (and_parts (fits_protection r.protection) _ parts.1).0)

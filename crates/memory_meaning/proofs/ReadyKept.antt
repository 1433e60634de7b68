-- Map, unmap, protect, unwire and sync leave what a memory keeps. Assumes nothing.
use Rattle.std.proofs.Common.{◌≡◌, ℕ, true, false, not, ◌&&◌, eqb, Some, None, Option, sym, refl, ap, ◌∙◌, subst, inl, inr, ⊎_elim}
use Rattle.std.proofs.lemmas.Bool.{and_parts, or_cases, eqb-true, not-false}
use Rattle.refusal.specs.declared.memory.MemoryRefusal.{MemoryRefusal}
use Rattle.refusal.specs.declared.memory.MemoryRefusal.TheVariants.{Range, Wired, NotWired}
use Rattle.pmap.specs.Ranges.{fits_place, fits_protection}
use Rattle.pmap.specs.Meaning.{View}
use Rattle.calls.specs.declared.Call.{Call}
use Rattle.calls.specs.declared.Call.TheVariants.{Map, Unmap, Protect, Unwire, Sync}
use Rattle.rules.specs.declared.region.Region.{Region}
use Rattle.rules.specs.Lists.{first, any}
use Rattle.rules.specs.State.{State}
use Rattle.rules.specs.Refusals.{begins, is_place, in_region, region_refusal, call_refusal}
use Rattle.rules.specs.Rules.{Reply, moved, moved_by}
use Rattle.rules.proofs.Lists.{never, first_some, first_passes, first_all_of}
use Rattle.rules.proofs.GoodKept.{refuse_none}
use Rattle.rules.proofs.Accepted.{good_moved}
use Rattle.memory_meaning.specs.Matches.{HeldWired, Matches}
use Rattle.memory_meaning.specs.Ready.{Ready}
use Rattle.memory_meaning.specs.Leaves.{Leaves, LeavesBy, Serves, unwired_mark, unmapped_at, protected_at}
use Rattle.memory_meaning.proofs.Firsts.{place_test}
use Rattle.memory_meaning.proofs.Matching.{match_stays, match_map, match_unmap, match_protect, match_unwire}

-- the tables fit what is held
abbrev Fitting : View → State → Type 0
Fitting w t = Matches w.held t.regions t.lies t.wired

module _ (v w : View) (s t : State) (c : Call) (ready : Ready v s) where
  unchanged : ((a b : ℕ) → w.held a b ≡ v.held a b) → Fitting w s
  unchanged same = match_stays v.held w.held s.regions s.lies s.wired ready.fits (λ a b. inl (same a b))

  -- a refused call changes nothing; an accepted one that moves no count has to leave the fit
  pub ready_by : (r : Reply) → (call_refusal s c ≡ None → LeavesBy v w s c → Fitting w (moved s c)) → (moved s c).counts ≡ s.counts → Serves v w s t c r → Ready w t
  ready_by r fit still served = subst (Ready w) (sym served.state) (at (call_refusal s c) refl served.view)
    where
      at : (o : Option MemoryRefusal) → call_refusal s c ≡ o → Leaves v w s c o → Ready w (moved_by s c o)
      at (Some e) is same = record { good = ready.good; fits = unchanged same; bounded = ready.bounded }
      at None is leaves = record { good = good_moved s c ready.good is; fits = fit is leaves; bounded = rw still ready.bounded }

module _ (v w : View) (s t : State) (ready : Ready v s) (r : Reply) where
  pub ready_map : (a p count object offset q : ℕ) → Serves v w s t (Map a p count object offset q) r → Ready w t
  ready_map a p count object offset q = ready_by v w s t (Map a p count object offset q) ready r
      (λ is same.
      match_map w.held w.held s.regions s.lies s.wired (unchanged v w s t (Map a p count object offset q) ready same)
      (record { space = a; first = p; count = count; object = object; offset = offset; protection = q }))
      refl

  -- the region that an unmap or protect found
  at_region : (o : Option Region) → region_refusal s o ≡ None → (x : Region) × (o ≡ Some x) × (any (in_region x) s.wired ≡ false)
  at_region None e = never (cc)
  at_region (Some x) e = (x, refl, (refuse_none (any (in_region x) s.wired) Wired None e).0)

  pub ready_unmap : (a p : ℕ) → Serves v w s t (Unmap a p) r → Ready w t
  ready_unmap a p = ready_by v w s t (Unmap a p) ready r
      (λ is gone.
      let x = at_region (first (begins a p) s.regions) (refuse_none (not (fits_place a p)) Range (region_refusal s (first (begins a p) s.regions)) is).1 in
      match_unmap v.held w.held s.regions s.lies s.wired ready.fits a p x.0 x.1 x.2
      (λ c d. gone c d ∙ ap (λ o. unmapped_at o c d (v.held c d)) x.1))
      refl

  pub ready_protect : (a p q : ℕ) → Serves v w s t (Protect a p q) r → Ready w t
  ready_protect a p q = ready_by v w s t (Protect a p q) ready r
      (λ is low.
      let passed = refuse_none (not (fits_place a p && fits_protection q)) Range (region_refusal s (first (begins a p) s.regions)) is in
      let x = at_region (first (begins a p) s.regions) passed.1 in
      match_protect v.held w.held s.regions s.lies s.wired ready.fits a p q x.0 x.1 x.2
      (λ c d. low c d ∙ ap (λ o. protected_at q o c d (v.held c d)) x.1)
      (⊎_elim
      (λ (e : eqb q 1 ≡ true). inl (eqb-true q 1 e))
      (λ (e : eqb q 3 ≡ true). inr (eqb-true q 3 e))
      (or_cases (eqb q 1) (eqb q 3) (and_parts (fits_place a p) (fits_protection q) (not-false (fits_place a p && fits_protection q) passed.0)).1)))
      refl

  pub ready_unwire : (a p : ℕ) → Serves v w s t (Unwire a p) r → Ready w t
  ready_unwire a p = ready_by v w s t (Unwire a p) ready r
      (λ is un.
      let listed = not-false (any (is_place a p) s.wired) (refuse_none (not (any (is_place a p) s.wired)) NotWired None (refuse_none (not (fits_place a p)) Range _ is).1).0 in
      let x = first_some (is_place a p) s.wired listed in
      let held = first_all_of (is_place a p) (HeldWired v.held s.regions) s.wired x.0 ready.fits.wired x.1 in
      let same = place_test a p x.0 (first_passes (is_place a p) s.wired x.0 x.1) in
      let was : v.held a p ≡ Some (x.0.frame, held.region.protection, true) =
      ap (λ z. v.held z p) (sym same.0) ∙ ap (v.held x.0.space) (sym same.1) ∙ held.holds in
      match_unwire v.held w.held s.regions s.lies s.wired ready.fits a p x.0.frame held.region.protection true
      was (un.here ∙ ap unwired_mark was) un.others)
      refl

  pub ready_sync : (o : ℕ) → Serves v w s t (Sync o) r → Ready w t
  ready_sync o = ready_by v w s t (Sync o) ready r (λ is same. unchanged v w s t (Sync o) ready same) refl

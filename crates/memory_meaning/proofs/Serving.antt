-- From the steps of a call to what the call serves: refusals, regions and unwiring. Assumes nothing.
use Rattle.std.proofs.Common.{◌≡◌, ℕ, ◌<◌, Bool, true, false, cond, not, ◌&&◌, eqb, length, get_or, set, Some, None, Ok, Err, Option, sym, refl, ap, ◌∙◌, subst, inl}
use Rattle.std.specs.List.{remove}
use Rattle.std.proofs.lemmas.Bool.{cond-true, cond-false, not_from_true, lt-leb, ne_eqb, and_right}
use Rattle.refusal.specs.declared.memory.MemoryRefusal.{MemoryRefusal}
use Rattle.refusal.specs.declared.memory.MemoryRefusal.TheVariants.{Range, Overlap, NoRegion, Wired}
use Rattle.pmap.specs.Ranges.{fits_place, fits_protection}
use Rattle.pmap.specs.Meaning.{Mapping, View, Unwired, lowered}
use Rattle.calls.specs.declared.Call.{Call}
use Rattle.calls.specs.declared.Call.TheVariants.{Map, Unmap, Protect, Unwire}
use Rattle.rules.specs.declared.answer.Answer.TheVariants.{Done}
use Rattle.rules.specs.declared.region.Region.{Region}
use Rattle.rules.specs.Lists.{first, place, any, without}
use Rattle.rules.specs.State.{State}
use Rattle.rules.specs.Refusals.{refuse, begins, covers, overlaps, is_place, in_region, fits_map, region_refusal, call_refusal}
use Rattle.rules.specs.Rules.{answer, moved, moved_by, reply_by, mapped, with_regions, with_wired, with_protection}
use Rattle.rules.specs.Good.{Good, RegionFits}
use Rattle.rules.proofs.Lists.{first_all_of}
use Rattle.tables.specs.Held.{with_dirty}
use Rattle.tables.proofs.Positions.{place_first, removed_is, set_is, nowhere_first}
use Rattle.memory_meaning.specs.Ready.{hits}
use Rattle.memory_meaning.specs.Leaves.{Leaves, LeavesBy, Serves, Unwires, unwired_mark, unmapped_at, protected_at}
use Rattle.memory_meaning.specs.Ranges.{within, Over, nothing}
use Rattle.memory_meaning.specs.Replies.{FreeAt, Restricts}

-- a call that is refused, and one that is not
pub refused : (v : View) (s : State) (c : Call) (e : MemoryRefusal) → call_refusal s c ≡ Some e → Serves v v s s c (Err e)
refused v s c e h = record {
  answer = sym (ap (reply_by s c (hits v c)) h);
  state = sym (ap (moved_by s c) h);
  view = subst (Leaves v v s c) (sym h) (λ a b. refl);
}

pub accepted : (v w : View) (s t : State) (c : Call) → call_refusal s c ≡ None → t ≡ moved s c → LeavesBy v w s c → Serves v w s t c (Ok (answer s c (hits v c)))
accepted v w s t c h is leaves = record {
  answer = sym (ap (reply_by s c (hits v c)) h);
  state = is ∙ sym (ap (moved_by s c) h);
  view = subst (Leaves v w s c) (sym h) leaves;
}

-- a test that does not hold does not refuse
pub passes : (b : Bool) (e : MemoryRefusal) (o : Option MemoryRefusal) → b ≡ false → refuse b e o ≡ o
passes b e o h = cond-false _ _ _ h

pub in_range : (b : Bool) (o : Option MemoryRefusal) → b ≡ true → refuse (not b) Range o ≡ o
in_range b o h = cond-false _ _ _ (not_from_true b h)

-- unwire
module _ (v w : View) (s : State) (a p : ℕ) where
  unwires : (m : Option Mapping) → v.held a p ≡ m → Unwired v w a p m → Unwires v w a p
  unwires None e same = record { here = same.held a p ∙ e ∙ sym (ap unwired_mark e); others = λ c d _. inl (same.held c d) }
  unwires (Some m) e put = record { here = put.here ∙ sym (ap unwired_mark e); others = put.others }

  pub marks_unwired : (m : Option Mapping) → Unwired v w a p m → w.modified ≡ v.modified
  marks_unwired None same = same.marks
  marks_unwired (Some m) put = put.marked

  pub unwire_served : (t : State) → fits_place a p ≡ true → any (is_place a p) s.wired ≡ true → Unwired v w a p (v.held a p) → s.dirty ≡ v.modified → t ≡ with_wired (with_dirty s w.modified) (without (is_place a p) s.wired) → Serves v w s t (Unwire a p) (Ok Done)
  unwire_served t e y un own is = accepted v w s t (Unwire a p)
      (in_range (fits_place a p) _ e ∙ cond-false _ _ _ (not_from_true _ y))
      (is ∙ ap (λ d. with_wired (with_dirty s d) (without (is_place a p) s.wired)) (marks_unwired (v.held a p) un ∙ sym own))
      (unwires (v.held a p) refl un)

-- map
module _ (v : View) (s : State) (a p count object offset q : ℕ) where
  pub map_served : (t : State) → fits_map a p count object offset q ≡ true → any (overlaps a p count) s.regions ≡ false → length s.regions < 64 → t ≡ with_regions s (mapped s.regions a p count object offset q) → Serves v v s t (Map a p count object offset q) (Ok Done)
  map_served t e o f is = accepted v v s t (Map a p count object offset q)
      (in_range (fits_map a p count object offset q) _ e ∙ passes _ Overlap _ o ∙ cond-false _ _ _ (lt-leb _ _ f))
      is
      (λ c d. refl)

-- the region that begins at a page
module _ (s : State) (a p : ℕ) where
  pub region_none : place (begins a p) s.regions ≡ None → region_refusal s (first (begins a p) s.regions) ≡ Some NoRegion
  region_none e = ap (region_refusal s) (nowhere_first (begins a p) s.regions e)

  module _ (at : ℕ) (r : Region) (found : place (begins a p) s.regions ≡ Some at) (is : r ≡ get_or s.regions at r) where
    pub region_first : first (begins a p) s.regions ≡ Some r
    region_first = place_first (begins a p) s.regions at r found ∙ ap Some (sym is)

    pub region_wired : any (in_region r) s.wired ≡ true → region_refusal s (first (begins a p) s.regions) ≡ Some Wired
    region_wired y = ap (region_refusal s) region_first ∙ cond-true _ _ _ y

    pub region_free : any (in_region r) s.wired ≡ false → FreeAt s a p at
    region_free n = record { found = found; free = ap (region_refusal s) region_first ∙ cond-false _ _ _ n }

    pub region_fits_is : Good s → RegionFits r
    region_fits_is g = first_all_of (begins a p) RegionFits s.regions r g.regions_fit region_first

module _ (v w : View) (s t : State) (a p at : ℕ) (r : Region) (free : FreeAt s a p at) (is : r ≡ get_or s.regions at r) (own : s.dirty ≡ v.modified) where
  pub unmap_served : fits_place a p ≡ true → Over nothing v w r.space r.first r.count → t ≡ with_regions (with_dirty s w.modified) (remove s.regions at) → Serves v w s t (Unmap a p) (Ok Done)
  unfolding within
  unmap_served e over end = accepted v w s t (Unmap a p)
      (in_range (fits_place a p) _ e ∙ free.free)
      (end ∙ ap (λ d. with_regions (with_dirty s d) (remove s.regions at)) (over.marks ∙ sym own) ∙ ap (with_regions s) (removed_is (begins a p) s.regions at free.found))
      (λ c d. over.held c d ∙ sym (ap (λ o. unmapped_at o c d (v.held c d)) (region_first s a p at r free.found is)))

  pub protect_served : (q : ℕ) → (fits_place a p && fits_protection q) ≡ true → Restricts v w r q → t ≡ with_regions (with_dirty s w.modified) (set s.regions at (with_protection q (get_or s.regions at r))) → Serves v w s t (Protect a p q) (Ok Done)
  protect_served q e low end = accepted v w s t (Protect a p q)
      (in_range (fits_place a p && fits_protection q) _ e ∙ free.free)
      (end ∙ ap (λ d. with_regions (with_dirty s d) (set s.regions at (with_protection q (get_or s.regions at r)))) (low.marks ∙ sym own)
      ∙ ap (with_regions s) (set_is (begins a p) s.regions (with_protection q) at r free.found))
      (λ c d. low.held c d ∙ sym (ap (λ o. protected_at q o c d (v.held c d)) (region_first s a p at r free.found is)))

-- a region's protection changes
module _ (v : View) (r : Region) (q : ℕ) where
  pub restricts_not : (q ≡ 1 → ⊥) → Restricts v v r q
  restricts_not far = record { held = λ a b. sym (cond-false _ _ _ (and_right (covers a b r) (eqb q 1) (ne_eqb q 1 far))); marks = refl }

  pub restricts : (w : View) → q ≡ 1 → Over lowered v w r.space r.first r.count → Restricts v w r q
  unfolding within
  restricts w one over = record {
    held = λ a b. over.held a b ∙ ap (λ z. cond z (lowered (v.held a b)) (v.held a b)) (sym (and_true (covers a b r)) ∙ ap (λ z. covers a b r && eqb z 1) (sym one));
    marks = over.marks;
  }
    where
      and_true : (b : Bool) → (b && true) ≡ b
      and_true true = refl
      and_true false = refl

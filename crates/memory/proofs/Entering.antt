-- What follows a page's bringing in: its mapping is entered, and the pmap does not refuse. Assumes nothing.
use Rattle.std.proofs.Common.{◌≡◌, ℕ, ◌<◌, true, false, length, vec_items, Some, sym, ap, ◌∙◌, arith}
use Rattle.std.proofs.lemmas.Bool.{lt-ltb}
use Rattle.refusal.specs.declared.pmap.PmapRefusal.{PmapRefusal}
use Rattle.pmap.specs.Meaning.{View, EnterRefused, is_wired}
use Rattle.pmap.specs.Ranges.{fits_place, fits_entry}
use Rattle.rules.specs.declared.region.Region.{Region}
use Rattle.rules.specs.State.{lie, page_in}
use Rattle.rules.specs.Refusals.{cover}
use Rattle.rules.specs.Paging.{resident}
use Rattle.rules.proofs.Accepted.{Covered, covered}
use Rattle.rules.proofs.GoodKept.{good_resident}
use Rattle.memory_meaning.specs.declared.outcome.Brought.{Brought}
use Rattle.memory_meaning.specs.Ready.{Ready, evictee}
use Rattle.memory_meaning.proofs.Reached.{enter_passes, entry_fits}
use Rattle.memory_meaning.proofs.AccessRules.{not_crowded, dropped_wired_is, wired_enter_passes}
use Rattle.memory.specs.declared.parts.Parts.{Parts}
use Rattle.memory.specs.Whole.{seen, state, Bringing}

-- a place's numbers are in range
pub place_fits : (a p : ℕ) → a < 4 → p < 262144 → fits_place a p ≡ true
place_fits a p low high = rw (lt-ltb a 4 low, lt-ltb p 262144 high)

module _ {P : Type 0} (view : P → View) (m : Parts P) (a p x : ℕ) (r : Region) (ready : Ready (seen view m) (state view m)) (cov : cover (state view m).regions a p ≡ Some r) (is : x ≡ page_in r p) where
  at : Covered r a p
  at = covered (state view m) a p r ready.good cov

  -- the object page of a covered place is one
  pub page_low : x < 2048
  page_low = omega (arith, at.page_low, is)

  module _ (e : Parts P) (b : Brought) (place : fits_place a p ≡ true) (brings : Bringing view m e x b) (refusal : PmapRefusal) where
    fits : fits_entry a p b.frame r.protection ≡ true
    fits = entry_fits (resident (state view m) x) a p x b.frame r (good_resident (state view m) x ready.good page_low brings.room) place at.fits brings.lies

    pub enters : EnterRefused (seen view e) a p b.frame r.protection false refusal → ⊥
    enters = enter_passes (seen view e) a p b.frame r.protection refusal fits

    -- with fewer than eight wired places there is room for one more
    pub enters_wired : length (vec_items m.tables.wired) < 8 → EnterRefused (seen view e) a p b.frame r.protection true refusal → ⊥
    enters_wired few = wired_enter_passes (seen view e) a p b.frame r.protection refusal fits
        (not_crowded (seen view m).held (seen view e).held (vec_items m.tables.regions) (vec_items m.tables.lies) (vec_items m.tables.wired) a p ready.fits few
        (λ c d w. dropped_wired_is (evictee (state view m) (lie (state view m) x)) ((seen view m).held c d) (ap is_wired (sym (brings.held c d)) ∙ w)))

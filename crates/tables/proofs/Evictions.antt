-- An eviction of the victim's page is a save, where its frame is modified, and a release. Assumes nothing.
use mathlib.Core.Path.{fun_ext}
use Rattle.std.proofs.Common.{◌≡◌, ℕ, Bool, true, false, eqb, List, [], ◌∷◌, get_or, set, Some, None, sym, ap, ◌∙◌, ⊎_elim, arith}
use Rattle.std.specs.List.{remove}
use Rattle.std.proofs.lemmas.Bool.{cases_Bool, cond-true, cond-false, eq-eqb, ne_eqb, both_ways}
use Rattle.pmap.specs.Meaning.{unmarked}
use Rattle.rules.specs.Lists.{first, place, without}
use Rattle.rules.specs.State.{State}
use Rattle.rules.specs.Refusals.{free}
use Rattle.rules.specs.Paging.{evict, owner, victim}
use Rattle.rules.proofs.Lists.{first_passes}
use Rattle.tables.specs.Held.{with_dirty, saved_to, released}
use Rattle.tables.proofs.Positions.{place_first, nowhere_first, removed_is}

-- the first number that passes a test is also the first of its kind
pub without_first : (test : ℕ → Bool) (xs : List ℕ) (f : ℕ) → first test xs ≡ Some f → without test xs ≡ without (eqb f) xs
unfolding first without
without_first test [] f e = let z : ◌≡◌ {A = ℕ} 0 1 = cc in absurd (omega arith)
without_first test (x ∷ xs) f e = ⊎_elim
    (λ (t : test x ≡ true).
    let k : Some x ≡ Some f = simp t at e in
    let same : f ≡ x = cc in
    cond-true _ _ _ t ∙ sym (cond-true _ _ _ (eq-eqb f x same)))
    (λ (t : test x ≡ false).
    let rest : first test xs ≡ Some f = simp t at e in
    let far : f ≡ x → ⊥ = λ q. both_ways (test x) t (ap test (sym q) ∙ first_passes test xs f rest) in
    cond-false _ _ _ t ∙ ap (◌∷◌ x) (without_first test xs f rest) ∙ sym (cond-false _ _ _ (ne_eqb f x far)))
    (cases_Bool (test x))

-- a frame that is not modified is none to be unmarked
pub unmarked_clean : (dirty : ℕ → Bool) (f : ℕ) → dirty f ≡ false → unmarked dirty f ≡ dirty
unmarked_clean dirty f e = fun_ext λ g. ⊎_elim
    (λ (q : dirty g ≡ true).
    let far : g ≡ f → ⊥ = λ same. both_ways (dirty f) e (ap dirty (sym same) ∙ q) in
    let no = ne_eqb g f far in
    simp (q, no))
    (λ (q : dirty g ≡ false). simp q)
    (cases_Bool (dirty g))

module _ (s : State) (at : ℕ) (e : place (free s.wired) s.queue ≡ Some at) where
  -- the frame at that position of the queue is the victim
  pub victim_is : victim s ≡ Some (get_or s.queue at 0)
  victim_is = place_first (free s.wired) s.queue at 0 e

  pub queue_is : remove s.queue at ≡ without (eqb (get_or s.queue at 0)) s.queue
  queue_is = removed_is (free s.wired) s.queue at e ∙ without_first (free s.wired) s.queue (get_or s.queue at 0) victim_is

  -- its word is stored where the frame is modified, the frame is released, and modified no more
  pub evict_saved : s.dirty (get_or s.queue at 0) ≡ true → with_dirty (released (saved_to s (get_or s.queue at 0)) at) (unmarked s.dirty (get_or s.queue at 0)) ≡ evict s (get_or s.queue at 0)
  evict_saved d = λ i. record {
    frames = s.frames;
    regions = s.regions;
    lies = set s.lies (owner s (get_or s.queue at 0)) None;
    owners = s.owners;
    queue = queue_is i;
    words = s.words;
    store = sym (cond-true (s.dirty (get_or s.queue at 0)) (set s.store (owner s (get_or s.queue at 0)) (get_or s.words (get_or s.queue at 0) 0)) s.store d) i;
    wired = s.wired;
    dirty = unmarked s.dirty (get_or s.queue at 0);
    counts = s.counts;
  }

  pub evict_clean : s.dirty (get_or s.queue at 0) ≡ false → with_dirty (released s at) (unmarked s.dirty (get_or s.queue at 0)) ≡ evict s (get_or s.queue at 0)
  evict_clean d = λ i. record {
    frames = s.frames;
    regions = s.regions;
    lies = set s.lies (owner s (get_or s.queue at 0)) None;
    owners = s.owners;
    queue = queue_is i;
    words = s.words;
    store = sym (cond-false (s.dirty (get_or s.queue at 0)) (set s.store (owner s (get_or s.queue at 0)) (get_or s.words (get_or s.queue at 0) 0)) s.store d) i;
    wired = s.wired;
    dirty = unmarked s.dirty (get_or s.queue at 0);
    counts = s.counts;
  }

-- where there is no free frame there is no victim
pub victim_none : (s : State) → place (free s.wired) s.queue ≡ None → victim s ≡ None
victim_none s e = nowhere_first (free s.wired) s.queue e

-- The steps of an eviction, taken together. Assumes nothing.
use Rattle.std.proofs.Common.{◌≡◌, ℕ, ◌/◌, ◌%◌, Bool, true, false, cond, get_or, Some, sym, ap, ◌∙◌, subst, ⊎_elim}
use Rattle.std.proofs.lemmas.Bool.{cases_Bool}
use Rattle.pmap.specs.Meaning.{View, unmarked, without as without_frame}
use Rattle.rules.specs.declared.answer.Evicted.{Evicted}
use Rattle.rules.specs.Lists.{place}
use Rattle.rules.specs.State.{State}
use Rattle.rules.specs.Refusals.{free}
use Rattle.rules.specs.Paging.{evict, owner}
use Rattle.tables.specs.Held.{with_dirty, saved_to, released}
use Rattle.tables.proofs.Evictions.{evict_saved, evict_clean}
use Rattle.memory_meaning.specs.Evicting.{Saves, Evicts}

-- object page x goes
abbrev gone : ℕ → Bool → Evicted
gone x stored = record { object = x / 256; index = x % 256; stored = stored }

module _ (v x w : View) (s t : State) (at : ℕ) (stored : Bool) (here : place (free s.wired) s.queue ≡ Some at) where
  evicted_state : Saves x w (with_dirty s x.modified) t (get_or s.queue at 0) stored → x.modified ≡ s.dirty → released t at ≡ evict s (get_or s.queue at 0)
  evicted_state saves marks =
      let f = get_or s.queue at 0 in
      let was : stored ≡ s.dirty f = saves.was ∙ ap (λ z. z f) marks in
      ap (λ z. released z at) saves.state
      ∙ ap (λ d. released (with_dirty (cond stored (saved_to (with_dirty s d) f) (with_dirty s d)) (unmarked d f)) at) marks
      ∙ ⊎_elim
      (λ (e : stored ≡ true). ap (λ z. released (with_dirty (cond z (saved_to s f) s) (unmarked s.dirty f)) at) e ∙ evict_saved s at here (sym was ∙ e))
      (λ (e : stored ≡ false). ap (λ z. released (with_dirty (cond z (saved_to s f) s) (unmarked s.dirty f)) at) e ∙ evict_clean s at here (sym was ∙ e))
      (cases_Bool stored)

  pub evicted_by : (f page : ℕ) → f ≡ get_or s.queue at 0 → page ≡ owner s f → ((a b : ℕ) → x.held a b ≡ without_frame f (v.held a b)) → Saves x w (with_dirty s x.modified) t f stored → x.modified ≡ s.dirty → (last : State) → last ≡ released t at → Evicts v w s last (get_or s.queue at 0) (record { object = page / 256; index = page % 256; stored = stored })
  evicted_by f page e owned drops saves marks last is =
      let saved : Saves x w (with_dirty s x.modified) t (get_or s.queue at 0) stored = subst (λ z. Saves x w (with_dirty s x.modified) t z stored) e saves in
      let own : page ≡ owner s (get_or s.queue at 0) = owned ∙ ap (owner s) e in
      record {
        state = is ∙ evicted_state saved marks;
        told = ap (λ z. gone z stored) own ∙ ap (gone (owner s (get_or s.queue at 0))) (saved.was ∙ ap (λ z. z (get_or s.queue at 0)) marks);
        held = λ a b. saves.held a b ∙ drops a b ∙ ap (λ z. without_frame z (v.held a b)) e;
      }

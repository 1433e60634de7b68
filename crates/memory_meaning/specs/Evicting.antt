-- The steps of an eviction. Assumes nothing.
use Rattle.std.specs.Prelude.{◌≡◌, ℕ, Bool, cond}
use Rattle.pmap.specs.Meaning.{View, unmarked, without as without_frame}
use Rattle.rules.specs.declared.answer.Evicted.{Evicted}
use Rattle.rules.specs.State.{State}
use Rattle.rules.specs.Paging.{evict, evicted_page}
use Rattle.tables.specs.Held.{with_dirty, saved_to}

-- the word of a modified frame is stored, and the frame is modified no more
pub record Saves (v w : View) (s t : State) (f : ℕ) (told : Bool) : Type 0 where
  pub was : told ≡ s.dirty f
  pub state : t ≡ with_dirty (cond told (saved_to s f) s) (unmarked s.dirty f)
  pub held : (a b : ℕ) → w.held a b ≡ v.held a b

-- the page of frame f goes, with all mappings of the frame
pub record Evicts (v w : View) (s t : State) (f : ℕ) (out : Evicted) : Type 0 where
  pub state : t ≡ evict s f
  pub told : out ≡ evicted_page s f
  pub held : (a b : ℕ) → w.held a b ≡ without_frame f (v.held a b)

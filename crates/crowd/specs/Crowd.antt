-- What a crowd of other mappings does to a pmap, from its view before (v) and after (w). Assumes nothing.
use Rattle.std.specs.Prelude.{◌≡◌, ℕ, ◌≤◌, Bool, not, is_some, IfOk, Result}
use Rattle.refusal.specs.declared.pmap.PmapRefusal.{PmapRefusal}
use Rattle.pmap.specs.Meaning.{View}
use Rattle.crowd.specs.declared.outcome.Outcome.{Outcome}

-- whether nothing is held at a place
abbrev pub Gone : View → ℕ → ℕ → Bool → Type 0
Gone w s p gone = is_some (w.held s p) ≡ not gone

-- the answer of a crowd of at most n others for the mapping of frame f at (s, p)
pub record Tells (v w : View) (s p f n : ℕ) (o : Outcome) : Type 0 where
  pub others : o.others ≤ n
  pub forgotten : Gone w s p o.forgotten
  -- a frame that was modified before the crowd is still told to be
  pub modified : o.modified ≡ v.modified f

abbrev pub Crowds : View → View → ℕ → ℕ → ℕ → ℕ → Result Outcome PmapRefusal → Type 0
Crowds v w s p f n r = IfOk r (λ o. Tells v w s p f n o)

-- Runs of calls: what was asked, what was answered, and what could be seen after each call. Assumes nothing.
use Rattle.std.specs.Prelude.{◌≡◌, ℕ, Bool, true, List, [], ◌∷◌, is_some, None}
use Rattle.calls.specs.declared.Call.{Call}
use Rattle.calls.specs.declared.Call.TheVariants.{Map, Unmap, Protect, Read, Write, Wire, Unwire, Sync}
use Rattle.rules.specs.declared.counts.Counts.{Counts}
use Rattle.rules.specs.Lists.{any}
use Rattle.rules.specs.State.{State, lie, is_modified, fresh}
use Rattle.rules.specs.Refusals.{is_place, refusal}
use Rattle.rules.specs.Rules.{Reply, reply, after, page_at}

-- what a memory shows of itself: its counts, its backing store and its modified object pages
pub record Shown : Type 0 where
  pub counts : Counts
  pub store : List ℕ
  pub modified : ℕ → Bool

abbrev pub shown : State → Shown
shown s = record { counts = s.counts; store = s.store; modified = is_modified s }

pub record Moment : Type 0 where
  pub call : Call
  pub reply : Reply
  pub after : Shown

-- what a pmap may say of a read or write: a hit only where the object page is resident,
-- and always where the call is accepted and its place is wired
pub record MayHit (s : State) (c : Call) (a p : ℕ) (hit : Bool) : Type 0 where
  pub lies : hit ≡ true → is_some (lie s (page_at s a p)) ≡ true
  pub holds : refusal s c ≡ None → any (is_place a p) s.wired ≡ true → hit ≡ true

abbrev pub May : State → Call → Bool → Type 0
May s (Map a p count object offset q) hit = Unit {0}
May s (Unmap a p) hit = Unit {0}
May s (Protect a p q) hit = Unit {0}
May s (Read a p) hit = MayHit s (Read a p) a p hit
May s (Write a p w) hit = MayHit s (Write a p w) a p hit
May s (Wire a p) hit = Unit {0}
May s (Unwire a p) hit = Unit {0}
May s (Sync o) hit = Unit {0}

-- the history of a memory of n frames, from new, the latest moment first, and the state that it led to
pub data Passed (n : ℕ) : List Moment → State → Type 0 where
  begun : Passed n [] (fresh n)
  called : {h : List Moment} {s : State} → Passed n h s → (c : Call) (hit : Bool) → May s c hit → Passed n (record { call = c; reply = reply s c hit; after = shown (after s c hit) } ∷ h) (after s c hit)

-- What the parts of a memory show, what they keep between calls, and how a step moves them. Assumes nothing.
use Rattle.std.specs.Prelude.{ℕ, Bool}
use Rattle.refusal.specs.declared.memory.MemoryRefusal.{MemoryRefusal}
use Rattle.pmap.specs.Meaning.{View}
use Rattle.calls.specs.declared.Call.{Call}
use Rattle.rules.specs.declared.answer.Evicted.{Evicted}
use Rattle.rules.specs.State.{State}
use Rattle.rules.specs.Rules.{Reply}
use Rattle.memory_meaning.specs.declared.outcome.Brought.{Brought}
use Rattle.memory_meaning.specs.declared.outcome.Reached.{Reached}
use Rattle.memory_meaning.specs.Ready.{memory_state, Ready, Brings, NoRoom}
use Rattle.memory_meaning.specs.Evicting.{Saves, Evicts}
use Rattle.memory_meaning.specs.Leaves.{Serves}
use Rattle.memory_meaning.specs.Reaching.{Reaches, Unmoved}
use Rattle.memory.specs.declared.parts.Parts.{Parts}

module _ {P : Type 0} (view : P → View) where
  -- what its pmap holds, and its state
  abbrev pub seen : Parts P → View
  seen m = view m.pmap

  abbrev pub state : Parts P → State
  state m = memory_state (view m.pmap) m.tables m.counts

  -- a call is carried out or refused, but not counted
  abbrev pub Serving : Parts P → Parts P → Call → Reply → Type 0
  Serving m w call reply = Serves (seen m) (seen w) (state m) (state w) call reply

  -- an access comes to a frame
  abbrev pub Reaching : Parts P → Parts P → ℕ → ℕ → Bool → Reached → Type 0
  Reaching m w space page write r = Reaches (seen m) (seen w) (state m) (state w) space page write r.frame r.report

  -- an object page is brought in
  abbrev pub Bringing : Parts P → Parts P → ℕ → Brought → Type 0
  Bringing m w x b = Brings (seen m) (seen w) (state m) (state w) x b.frame b.loaded b.evicted

  -- there is no frame for it
  abbrev pub Roomless : Parts P → Parts P → ℕ → MemoryRefusal → Type 0
  Roomless m w x e = NoRoom (seen m) (seen w) (state m) (state w) x e

  -- the page of a frame goes
  abbrev pub Evicting : Parts P → Parts P → ℕ → Evicted → Type 0
  Evicting m w frame out = Evicts (seen m) (seen w) (state m) (state w) frame out

  -- the word of a frame is stored, if it is modified
  abbrev pub Saving : Parts P → Parts P → ℕ → Bool → Type 0
  Saving m w frame stored = Saves (seen m) (seen w) (state m) (state w) frame stored

  -- nothing moves
  abbrev pub Still : Parts P → Parts P → Type 0
  Still m w = Unmoved (seen m) (seen w) (state m) (state w)

-- what every memory keeps from new on: what its pmap keeps, and what its state does
pub record Whole {P : Type 0} (view : P → View) (keeps : P → Type 0) (m : Parts P) : Type 0 where
  pub kept : keeps m.pmap
  pub ready : Ready (seen view m) (state view m)

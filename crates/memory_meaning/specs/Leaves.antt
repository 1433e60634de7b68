-- What each call of the memory answers, changes, and leaves in the pmap, up to what the pmap is free to forget. Assumes nothing.
use Rattle.std.specs.Prelude.{◌≡◌, ℕ, Bool, true, false, cond, ◌&&◌, Some, None, Option, ◌==◌}
use Rattle.refusal.specs.declared.memory.MemoryRefusal.{MemoryRefusal}
use Rattle.pmap.specs.Meaning.{Mapping, View, Stays, Elsewhere, lowered}
use Rattle.calls.specs.declared.Call.{Call}
use Rattle.calls.specs.declared.Call.TheVariants.{Map, Unmap, Protect, Read, Write, Wire, Unwire, Sync}
use Rattle.rules.specs.declared.region.Region.{Region}
use Rattle.rules.specs.Lists.{first}
use Rattle.rules.specs.State.{State, lie}
use Rattle.rules.specs.Refusals.{cover, covers, begins, call_refusal}
use Rattle.rules.specs.Paging.{resident}
use Rattle.rules.specs.Rules.{Reply, page_at, reply_by, moved_by}
use Rattle.memory_meaning.specs.Ready.{serves, hits, evictee, dropped_by}

-- the mappings of the pages of a region go
abbrev pub unmapped_at : Option Region → ℕ → ℕ → Option Mapping → Option Mapping
unmapped_at None a b m = m
unmapped_at (Some r) a b m = cond (covers a b r) None m

-- or, where it becomes read-only, are lowered
abbrev pub protected_at : ℕ → Option Region → ℕ → ℕ → Option Mapping → Option Mapping
protected_at q None a b m = m
protected_at q (Some r) a b m = cond (covers a b r && q == 1) (lowered m) m

-- the mapping of a place to the frame that its object page is brought into
abbrev pub mapping_for : Option Region → Option ℕ → Bool → Option Mapping
mapping_for None frame wired = None
mapping_for (Some r) None wired = None
mapping_for (Some r) (Some f) wired = Some (f, r.protection, wired)

abbrev pub entered : State → ℕ → ℕ → Bool → Option Mapping
entered s a p wired = mapping_for (cover s.regions a p) (lie (resident s (page_at s a p)) (page_at s a p)) wired

abbrev pub unwired_mark : Option Mapping → Option Mapping
unwired_mark None = None
unwired_mark (Some m) = Some (m.0, m.1, false)

-- every mapping stays, but unwired ones at other places may vanish
pub record Forgets (v w : View) (a p : ℕ) : Type 0 where
  pub here : w.held a p ≡ v.held a p
  pub others : (c d : ℕ) → Stays (v.held c d) (w.held c d)

-- the place's mapping is entered; those of an evicted frame are gone, and unwired ones at other places may vanish
pub record Enters (v w : View) (s : State) (a p : ℕ) (wired : Bool) : Type 0 where
  pub here : w.held a p ≡ entered s a p wired
  pub others : (c d : ℕ) → Elsewhere a p c d → Stays (dropped_by (evictee s (lie s (page_at s a p))) (v.held c d)) (w.held c d)

pub record Unwires (v w : View) (a p : ℕ) : Type 0 where
  pub here : w.held a p ≡ unwired_mark (v.held a p)
  pub others : (c d : ℕ) → Elsewhere a p c d → Stays (v.held c d) (w.held c d)

abbrev pub Touches : View → View → State → ℕ → ℕ → Bool → Type 0
Touches v w s a p true = Forgets v w a p
Touches v w s a p false = Enters v w s a p false

-- what an accepted call leaves in the pmap
abbrev pub LeavesBy : View → View → State → Call → Type 0
LeavesBy v w s (Map a p count object offset q) = (c d : ℕ) → w.held c d ≡ v.held c d
LeavesBy v w s (Unmap a p) = (c d : ℕ) → w.held c d ≡ unmapped_at (first (begins a p) s.regions) c d (v.held c d)
LeavesBy v w s (Protect a p q) = (c d : ℕ) → w.held c d ≡ protected_at q (first (begins a p) s.regions) c d (v.held c d)
LeavesBy v w s (Read a p) = Touches v w s a p (serves (v.held a p) false)
LeavesBy v w s (Write a p word) = Touches v w s a p (serves (v.held a p) true)
LeavesBy v w s (Wire a p) = Enters v w s a p true
LeavesBy v w s (Unwire a p) = Unwires v w a p
LeavesBy v w s (Sync o) = (c d : ℕ) → w.held c d ≡ v.held c d

abbrev pub Leaves : View → View → State → Call → Option MemoryRefusal → Type 0
Leaves v w s c (Some e) = (a b : ℕ) → w.held a b ≡ v.held a b
Leaves v w s c None = LeavesBy v w s c

-- a call is carried out or refused, but not counted
pub record Serves (v w : View) (s t : State) (c : Call) (r : Reply) : Type 0 where
  pub answer : r ≡ reply_by s c (hits v c) (call_refusal s c)
  pub state : t ≡ moved_by s c (call_refusal s c)
  pub view : Leaves v w s c (call_refusal s c)

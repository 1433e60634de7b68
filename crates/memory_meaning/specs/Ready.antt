-- A memory's state, what it keeps, and what each call leaves in its pmap. Assumes nothing.
use Rattle.std.specs.Prelude.{◌≡◌, ℕ, ◌*◌, ◌≤◌, Bool, true, false, cond, Some, None, Option}
use Rattle.refusal.specs.declared.memory.MemoryRefusal.{MemoryRefusal}
use Rattle.pmap.specs.Meaning.{Mapping, View, allows, without as without_frame}
use Rattle.calls.specs.declared.Call.{Call}
use Rattle.calls.specs.declared.Call.TheVariants.{Map, Unmap, Protect, Read, Write, Wire, Unwire, Sync}
use Rattle.rules.specs.declared.answer.Evicted.{Evicted}
use Rattle.rules.specs.declared.counts.Counts.{Counts}
use Rattle.rules.specs.State.{State, lie}
use Rattle.rules.specs.Refusals.{wants_frame}
use Rattle.rules.specs.Paging.{victim, unused, resident, evicted_by}
use Rattle.rules.specs.Good.{Good}
use Rattle.tables.specs.declared.table.Tables.{Tables}
use Rattle.tables.specs.Held.{state_of}
use Rattle.memory_meaning.specs.Matches.{Matches}

abbrev pub memory_state : View → Tables → Counts → State
memory_state v t n = state_of t v.modified n

-- what the counts keep: no count passes the calls, and the stored words not 2,048 times as many
pub record Bounded (n : Counts) : Type 0 where
  pub calls : n.calls ≤ 1000000
  pub refused : n.refused ≤ n.calls
  pub hits : n.hits ≤ n.calls
  pub soft : n.soft ≤ n.calls
  pub hard : n.hard ≤ n.calls
  pub loads : n.loads ≤ n.calls
  pub evicted : n.evicted ≤ n.calls
  pub stored : n.stored ≤ 2048 * n.calls

-- what a memory keeps from new on
pub record Ready (v : View) (s : State) : Type 0 where
  pub good : Good s
  pub fits : Matches v.held s.regions s.lies s.wired
  pub bounded : Bounded s.counts

-- the pmap holds at the place a mapping that allows the access
abbrev pub serves : Option Mapping → Bool → Bool
serves None write = false
serves (Some m) write = allows m.1 write

abbrev pub hits : View → Call → Bool
hits v (Map a p count object offset q) = false
hits v (Unmap a p) = false
hits v (Protect a p q) = false
hits v (Read a p) = serves (v.held a p) false
hits v (Write a p w) = serves (v.held a p) true
hits v (Wire a p) = false
hits v (Unwire a p) = false
hits v (Sync o) = false

abbrev pub is_none : Option ℕ → Bool
is_none None = true
is_none (Some f) = false

-- the frame whose page goes where an object page is brought in
abbrev pub evictee : State → Option ℕ → Option ℕ
evictee s (Some f) = None
evictee s None = cond (unused s) None (victim s)

-- the mappings of that frame go
abbrev pub dropped_by : Option ℕ → Option Mapping → Option Mapping
dropped_by None m = m
dropped_by (Some f) m = without_frame f m

-- an object page is brought in: its frame, whether it was loaded, and what made room
pub record Brings (v w : View) (s t : State) (x frame : ℕ) (loaded : Bool) (evicted : Option Evicted) : Type 0 where
  pub room : wants_frame s (lie s x) ≡ None
  pub state : t ≡ resident s x
  pub lies : lie (resident s x) x ≡ Some frame
  pub told : loaded ≡ is_none (lie s x)
  pub out : evicted ≡ evicted_by s (lie s x)
  pub held : (a b : ℕ) → w.held a b ≡ dropped_by (evictee s (lie s x)) (v.held a b)

-- there is no frame to bring it into, and nothing moves
pub record NoRoom (v w : View) (s t : State) (x : ℕ) (e : MemoryRefusal) : Type 0 where
  pub told : wants_frame s (lie s x) ≡ Some e
  pub state : t ≡ s
  pub held : (a b : ℕ) → w.held a b ≡ v.held a b

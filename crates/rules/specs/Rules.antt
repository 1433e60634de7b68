-- What each call of the memory answers and changes. Assumes nothing.
--
-- An accepted read or write is a hit exactly where the pmap held, as the call began, a mapping that allows it; that is the one
-- thing that `hit` tells. Everything else is a function of the state.
use Rattle.std.specs.Prelude.{ℕ, ◌+◌, Bool, true, false, cond, not, List, [], ◌∷◌, ◌++◌, is_some, Some, None, Ok, Err, Option, Result}
use Rattle.refusal.specs.declared.memory.MemoryRefusal.{MemoryRefusal}
use Rattle.refusal.specs.declared.memory.MemoryRefusal.TheVariants.{CallLimit, Range, Overlap, RegionsFull, NoRegion, ReadOnly, Wired as WiredRefusal, NotWired, WiredFull, NoFrame, Pmap}
use Rattle.calls.specs.declared.Call.{Call}
use Rattle.calls.specs.declared.Call.TheVariants.{Map, Unmap, Protect, Read, Write, Wire, Unwire, Sync}
use Rattle.rules.specs.declared.answer.Kind.{Kind}
use Rattle.rules.specs.declared.answer.Kind.TheVariants.{Hit, Soft, Hard}
use Rattle.rules.specs.declared.answer.Evicted.{Evicted}
use Rattle.rules.specs.declared.answer.Report.{Report}
use Rattle.rules.specs.declared.answer.Reading.{Reading}
use Rattle.rules.specs.declared.answer.Wiring.{Wiring}
use Rattle.rules.specs.declared.answer.Answer.{Answer}
use Rattle.rules.specs.declared.answer.Answer.TheVariants.{Done, Read as ReadAnswer, Wrote, Wired, Synced}
use Rattle.rules.specs.declared.counts.Counts.{Counts}
use Rattle.rules.specs.declared.region.Region.{Region}
use Rattle.rules.specs.declared.region.WiredPlace.{WiredPlace}
use Rattle.rules.specs.Lists.{without, changed}
use Rattle.rules.specs.State.{State, lie, page_in}
use Rattle.rules.specs.Refusals.{cover, begins, is_place, refusal}
use Rattle.rules.specs.Paging.{resident, evicted_by, written_to, word_in, synced, synced_count}

abbrev pub Reply : Type 0
Reply = Result Answer MemoryRefusal

-- kinds and reports

abbrev pub kind_of : Bool → Option ℕ → Kind
kind_of true frame = Hit
kind_of false None = Hard
kind_of false (Some f) = Soft

abbrev pub report_of : State → ℕ → Bool → Report
report_of s x hit = record { kind = kind_of hit (lie s x); evicted = evicted_by s (lie s x) }

abbrev pub reading_of : State → ℕ → Bool → Reading
reading_of s x hit = record { report = report_of s x hit; word = word_in (resident s x) (lie (resident s x) x) }

abbrev pub wiring_of : State → ℕ → Wiring
wiring_of s x = record { loaded = not (is_some (lie s x)); evicted = evicted_by s (lie s x) }

-- the object page that an accepted read, write or wire is to
abbrev pub object_page : Option Region → ℕ → ℕ
object_page None p = 0
object_page (Some r) p = page_in r p

abbrev pub page_at : State → ℕ → ℕ → ℕ
page_at s a p = object_page (cover s.regions a p) p

-- what an accepted call answers
abbrev pub answer : State → Call → Bool → Answer
answer s (Map a p count object offset q) hit = Done
answer s (Unmap a p) hit = Done
answer s (Protect a p q) hit = Done
answer s (Read a p) hit = ReadAnswer (reading_of s (page_at s a p) hit)
answer s (Write a p w) hit = Wrote (report_of s (page_at s a p) hit)
answer s (Wire a p) hit = Wired (wiring_of s (page_at s a p))
answer s (Unwire a p) hit = Done
answer s (Sync o) hit = Synced (synced_count s o)

-- regions

abbrev pub mapped : List Region → ℕ → ℕ → ℕ → ℕ → ℕ → ℕ → List Region
mapped rs a p count object offset q =
    rs ++ (record { space = a; first = p; count = count; object = object; offset = offset; protection = q } ∷ [])

abbrev pub with_protection : ℕ → Region → Region
with_protection q r = record { space = r.space; first = r.first; count = r.count; object = r.object; offset = r.offset; protection = q }

abbrev pub regions_after : List Region → Call → List Region
regions_after rs (Map a p count object offset q) = mapped rs a p count object offset q
regions_after rs (Unmap a p) = without (begins a p) rs
regions_after rs (Protect a p q) = changed (begins a p) (with_protection q) rs
regions_after rs (Read a p) = rs
regions_after rs (Write a p w) = rs
regions_after rs (Wire a p) = rs
regions_after rs (Unwire a p) = rs
regions_after rs (Sync o) = rs

abbrev pub with_regions : State → List Region → State
with_regions s rs = record { frames = s.frames; regions = rs; lies = s.lies; owners = s.owners; queue = s.queue; words = s.words; store = s.store; wired = s.wired; dirty = s.dirty; counts = s.counts }

abbrev pub with_wired : State → List WiredPlace → State
with_wired s ws = record { frames = s.frames; regions = s.regions; lies = s.lies; owners = s.owners; queue = s.queue; words = s.words; store = s.store; wired = ws; dirty = s.dirty; counts = s.counts }

abbrev pub wired_to : State → ℕ → ℕ → Option ℕ → State
wired_to s a p None = s
wired_to s a p (Some f) = with_wired s (s.wired ++ (record { space = a; page = p; frame = f } ∷ []))

abbrev pub written : State → ℕ → ℕ → State
written s x w = written_to (resident s x) w (lie (resident s x) x)

abbrev pub wired_at : State → ℕ → ℕ → ℕ → State
wired_at s a p x = wired_to (resident s x) a p (lie (resident s x) x)

-- what an accepted call changes, but for the counts
abbrev pub moved : State → Call → State
moved s (Map a p count object offset q) = with_regions s (regions_after s.regions (Map a p count object offset q))
moved s (Unmap a p) = with_regions s (regions_after s.regions (Unmap a p))
moved s (Protect a p q) = with_regions s (regions_after s.regions (Protect a p q))
moved s (Read a p) = resident s (page_at s a p)
moved s (Write a p w) = written s (page_at s a p) w
moved s (Wire a p) = wired_at s a p (page_at s a p)
moved s (Unwire a p) = with_wired s (without (is_place a p) s.wired)
moved s (Sync o) = synced s o

-- counts: each reply adds to them

abbrev pub one : Bool → ℕ
one b = cond b 1 0

abbrev pub is_kind : Kind → Kind → Bool
is_kind Hit Hit = true
is_kind Hit Soft = false
is_kind Hit Hard = false
is_kind Soft Hit = false
is_kind Soft Soft = true
is_kind Soft Hard = false
is_kind Hard Hit = false
is_kind Hard Soft = false
is_kind Hard Hard = true

abbrev pub evictions : Option Evicted → ℕ
evictions None = 0
evictions (Some e) = 1

abbrev pub savings : Option Evicted → ℕ
savings None = 0
savings (Some e) = one e.stored

-- a reply of an access of a kind
abbrev pub of_kind : Kind → Reply → ℕ
of_kind k (Err e) = 0
of_kind k (Ok Done) = 0
of_kind k (Ok (ReadAnswer r)) = one (is_kind k r.report.kind)
of_kind k (Ok (Wrote r)) = one (is_kind k r.kind)
of_kind k (Ok (Wired w)) = 0
of_kind k (Ok (Synced n)) = 0

abbrev pub loads_in : Reply → ℕ
loads_in (Err e) = 0
loads_in (Ok Done) = 0
loads_in (Ok (ReadAnswer r)) = one (is_kind Hard r.report.kind)
loads_in (Ok (Wrote r)) = one (is_kind Hard r.kind)
loads_in (Ok (Wired w)) = one w.loaded
loads_in (Ok (Synced n)) = 0

abbrev pub evicted_in : Reply → Option Evicted
evicted_in (Err e) = None
evicted_in (Ok Done) = None
evicted_in (Ok (ReadAnswer r)) = r.report.evicted
evicted_in (Ok (Wrote r)) = r.evicted
evicted_in (Ok (Wired w)) = w.evicted
evicted_in (Ok (Synced n)) = None

abbrev pub stored_in : Reply → ℕ
stored_in (Err e) = 0
stored_in (Ok Done) = 0
stored_in (Ok (ReadAnswer r)) = savings r.report.evicted
stored_in (Ok (Wrote r)) = savings r.evicted
stored_in (Ok (Wired w)) = savings w.evicted
stored_in (Ok (Synced n)) = n

abbrev pub refused_in : Reply → ℕ
refused_in (Err e) = 1
refused_in (Ok a) = 0

-- the refusal for too many calls moves no count
abbrev pub is_limit : Reply → Bool
is_limit (Ok a) = false
is_limit (Err CallLimit) = true
is_limit (Err Range) = false
is_limit (Err Overlap) = false
is_limit (Err RegionsFull) = false
is_limit (Err NoRegion) = false
is_limit (Err ReadOnly) = false
is_limit (Err WiredRefusal) = false
is_limit (Err NotWired) = false
is_limit (Err WiredFull) = false
is_limit (Err NoFrame) = false
is_limit (Err (Pmap e)) = false

abbrev pub added : Counts → Reply → Counts
added n r = record {
  calls = n.calls + 1;
  refused = n.refused + refused_in r;
  hits = n.hits + of_kind Hit r;
  soft = n.soft + of_kind Soft r;
  hard = n.hard + of_kind Hard r;
  loads = n.loads + loads_in r;
  evicted = n.evicted + evictions (evicted_in r);
  stored = n.stored + stored_in r;
}

abbrev pub counted : Counts → Reply → Counts
counted n r = cond (is_limit r) n (added n r)

abbrev pub with_counts : State → Counts → State
with_counts s n = record { frames = s.frames; regions = s.regions; lies = s.lies; owners = s.owners; queue = s.queue; words = s.words; store = s.store; wired = s.wired; dirty = s.dirty; counts = n }

-- the reply to a call, and the state after it

abbrev pub reply_by : State → Call → Bool → Option MemoryRefusal → Reply
reply_by s c hit (Some e) = Err e
reply_by s c hit None = Ok (answer s c hit)

abbrev pub reply : State → Call → Bool → Reply
reply s c hit = reply_by s c hit (refusal s c)

abbrev pub moved_by : State → Call → Option MemoryRefusal → State
moved_by s c (Some e) = s
moved_by s c None = moved s c

abbrev pub after : State → Call → Bool → State
after s c hit = with_counts (moved_by s c (refusal s c)) (counted s.counts (reply s c hit))

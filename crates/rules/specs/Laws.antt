-- The law over every run of calls, in terms of the calls, their replies and what is seen after each. Assumes nothing.
--
-- A history is a list of moments, the latest first: the moments before one are those behind it.
use Rattle.std.specs.Prelude.{◌≡◌, ℕ, ◌+◌, ◌*◌, ◌/◌, ◌<◌, Bool, true, false, cond, List, [], ◌∷◌, map, Some, None, Option, Ok, Err, ◌≢◌, slice_index}
use Rattle.calls.specs.declared.Call.{Call}
use Rattle.calls.specs.declared.Call.TheVariants.{Map, Unmap, Protect, Read, Write, Wire, Unwire, Sync}
use Rattle.rules.specs.declared.answer.Kind.{Kind}
use Rattle.rules.specs.declared.answer.Kind.TheVariants.{Hit, Soft, Hard}
use Rattle.rules.specs.declared.answer.Evicted.{Evicted}
use Rattle.rules.specs.declared.answer.Report.{Report}
use Rattle.rules.specs.declared.answer.Reading.{Reading}
use Rattle.rules.specs.declared.answer.Answer.TheVariants.{Done, Read as ReadAnswer, Wrote, Wired, Synced}
use Rattle.rules.specs.declared.counts.Counts.{Counts}
use Rattle.rules.specs.declared.region.Region.{Region}
use Rattle.rules.specs.State.{page_in}
use Rattle.rules.specs.Refusals.{cover}
use Rattle.rules.specs.Rules.{Reply, regions_after, evicted_in}
use Rattle.rules.specs.History.{Moment}

abbrev pub accepted : Reply → Bool
accepted (Ok a) = true
accepted (Err e) = false

-- a law holds of each moment and the history before it
unfoldable pub Always : (Moment → List Moment → Type 0) → List Moment → Type 0
Always law [] = Unit {0}
Always law (m ∷ h) = law m h × Always law h

-- the regions that the accepted maps, unmaps and protects give
unfoldable pub regions_of : List Moment → List Region
regions_of [] = []
regions_of (m ∷ h) = cond (accepted m.reply) (regions_after (regions_of h) m.call) (regions_of h)

-- a place stands for object page x
abbrev pub StandsFor : List Moment → ℕ → ℕ → ℕ → Type 0
StandsFor h a p x = (r : Region) × (cover (regions_of h) a p ≡ Some r) × (page_in r p ≡ x)

-- an accepted write of a word to object page x
pub record Writes (m : Moment) (h : List Moment) (x w : ℕ) : Type 0 where
  pub space : ℕ
  pub page : ℕ
  pub asked : m.call ≡ Write space page w
  pub passed : accepted m.reply ≡ true
  pub to : StandsFor h space page x

-- the word of the last accepted write to object page x, else its starting word, which is its number
pub data LastWord (x : ℕ) : List Moment → ℕ → Type 0 where
  never : LastWord x [] x
  latest : {m : Moment} {h : List Moment} {w : ℕ} → Writes m h x w → LastWord x (m ∷ h) w
  earlier : {m : Moment} {h : List Moment} {w : ℕ} → ((v : ℕ) → Writes m h x v → ⊥) → LastWord x h w → LastWord x (m ∷ h) w

-- object page x is evicted, or its object is synced
abbrev pub IsEvicted : ℕ → Option Evicted → Type 0
IsEvicted x None = ⊥
IsEvicted x (Some e) = 256 * e.object + e.index ≡ x

abbrev pub Evicts : Moment → ℕ → Type 0
Evicts m x = IsEvicted x (evicted_in m.reply)

abbrev pub Syncs : Moment → ℕ → Type 0
Syncs m object = (m.call ≡ Sync object) × (accepted m.reply ≡ true)

-- an accepted write to object page x came after every eviction of it and every accepted sync of its object
pub data Unsaved (x : ℕ) : List Moment → Type 0 where
  written : {m : Moment} {h : List Moment} {w : ℕ} → Writes m h x w → Unsaved x (m ∷ h)
  still : {m : Moment} {h : List Moment} → (Evicts m x → ⊥) → (Syncs m (x / 256) → ⊥) → Unsaved x h → Unsaved x (m ∷ h)

-- a place is wired: an accepted wire of it came after every accepted unwire of it
pub data WiredSince (a p : ℕ) : List Moment → Type 0 where
  wires : {m : Moment} {h : List Moment} → m.call ≡ Wire a p → accepted m.reply ≡ true → WiredSince a p (m ∷ h)
  stays : {m : Moment} {h : List Moment} → (m.call ≡ Unwire a p → accepted m.reply ≢ true) → WiredSince a p h → WiredSince a p (m ∷ h)

-- a. words

-- an accepted read gives the word of the last accepted write before it to its object page, else the starting word
abbrev pub ReadsLast : Moment → List Moment → Type 0
ReadsLast m h = (a p x : ℕ) (r : Reading) → m.call ≡ Read a p → m.reply ≡ Ok (ReadAnswer r) → StandsFor h a p x → LastWord x h r.word

-- every accepted read is to an object page and answers a reading
abbrev pub ReadsSomething : Moment → List Moment → Type 0
ReadsSomething m h = (a p : ℕ) → m.call ≡ Read a p → accepted m.reply ≡ true → ((x : ℕ) × StandsFor h a p x) × ((r : Reading) × (m.reply ≡ Ok (ReadAnswer r)))

-- after an accepted sync the backing store holds those words for all pages of its object
abbrev pub SyncStores : Moment → List Moment → Type 0
SyncStores m h = (object x : ℕ) → Syncs m object → x < 2048 → x / 256 ≡ object → LastWord x h (slice_index m.after.store x)

-- the modified object pages are exactly the unsaved ones
pub record ModifiedIsUnsaved (m : Moment) (h : List Moment) : Type 0 where
  pub unsaved : (x : ℕ) → m.after.modified x ≡ true → Unsaved x (m ∷ h)
  pub modified : (x : ℕ) → Unsaved x (m ∷ h) → m.after.modified x ≡ true

-- b. agreement, but for hit and soft fault

abbrev pub blur_kind : Kind → Kind
blur_kind Hit = Soft
blur_kind Soft = Soft
blur_kind Hard = Hard

abbrev pub blur_report : Report → Report
blur_report r = record { kind = blur_kind r.kind; evicted = r.evicted }

abbrev pub blur : Reply → Reply
blur (Err e) = Err e
blur (Ok Done) = Ok Done
blur (Ok (ReadAnswer r)) = Ok (ReadAnswer (record { report = blur_report r.report; word = r.word }))
blur (Ok (Wrote r)) = Ok (Wrote (blur_report r))
blur (Ok (Wired w)) = Ok (Wired w)
blur (Ok (Synced n)) = Ok (Synced n)

pub record CountsAgree (c d : Counts) : Type 0 where
  pub calls : c.calls ≡ d.calls
  pub refused : c.refused ≡ d.refused
  pub resident : c.hits + c.soft ≡ d.hits + d.soft
  pub hard : c.hard ≡ d.hard
  pub loads : c.loads ≡ d.loads
  pub evicted : c.evicted ≡ d.evicted
  pub stored : c.stored ≡ d.stored

pub record MomentsAgree (m k : Moment) : Type 0 where
  pub replies : blur m.reply ≡ blur k.reply
  pub counts : CountsAgree m.after.counts k.after.counts
  pub store : m.after.store ≡ k.after.store
  pub modified : m.after.modified ≡ k.after.modified

-- two histories agree after each call
pub data Agree : List Moment → List Moment → Type 0 where
  at_start : Agree [] []
  at_call : {m k : Moment} {h g : List Moment} → MomentsAgree m k → Agree h g → Agree (m ∷ h) (k ∷ g)

abbrev pub calls_of : List Moment → List Call
calls_of h = map (λ m. m.call) h

abbrev pub replies_of : List Moment → List Reply
replies_of h = map (λ m. m.reply) h

-- c. sums, and wired places

-- how many reads and writes were accepted
abbrev pub is_access : Call → Bool
is_access (Map a p count object offset q) = false
is_access (Unmap a p) = false
is_access (Protect a p q) = false
is_access (Read a p) = true
is_access (Write a p w) = true
is_access (Wire a p) = false
is_access (Unwire a p) = false
is_access (Sync o) = false

unfoldable pub accesses : List Moment → ℕ
accesses [] = 0
accesses (m ∷ h) = cond (is_access m.call) (cond (accepted m.reply) 1 0) 0 + accesses h

abbrev pub Sums : Moment → List Moment → Type 0
Sums m h = m.after.counts.hits + m.after.counts.soft + m.after.counts.hard ≡ accesses (m ∷ h)

-- the kind of an accepted read or write
abbrev pub IsHit : Reply → Type 0
IsHit (Err e) = ⊥
IsHit (Ok Done) = ⊥
IsHit (Ok (ReadAnswer r)) = r.report.kind ≡ Hit
IsHit (Ok (Wrote r)) = r.kind ≡ Hit
IsHit (Ok (Wired w)) = ⊥
IsHit (Ok (Synced n)) = ⊥

-- an accepted read or write at a wired place is a hit
pub record WiredHits (m : Moment) (h : List Moment) : Type 0 where
  pub reads : (a p : ℕ) → WiredSince a p h → m.call ≡ Read a p → accepted m.reply ≡ true → IsHit m.reply
  pub writes : (a p w : ℕ) → WiredSince a p h → m.call ≡ Write a p w → accepted m.reply ≡ true → IsHit m.reply

-- the law of one history, at each of its moments
pub record Lawful (h : List Moment) : Type 0 where
  pub something : Always ReadsSomething h
  pub reads : Always ReadsLast h
  pub syncs : Always SyncStores h
  pub modified : Always ModifiedIsUnsaved h
  pub sums : Always Sums h
  pub wired : Always WiredHits h

-- What the inner calls return, as replies, and what they find and leave on the way. Assumes nothing.
use Rattle.std.specs.Prelude.{◌≡◌, ℕ, Bool, cond, ◌&&◌, List, Some, None, Ok, Err, vec_items, Result, ◌==◌}
use Rattle.refusal.specs.declared.memory.MemoryRefusal.{MemoryRefusal}
use Rattle.pmap.specs.Meaning.{View, lowered}
use Rattle.rules.specs.declared.answer.Answer.TheVariants.{Done, Read as ReadAnswer, Wrote, Wired, Synced}
use Rattle.rules.specs.declared.answer.Reading.{Reading}
use Rattle.rules.specs.declared.answer.Report.{Report}
use Rattle.rules.specs.declared.answer.Wiring.{Wiring}
use Rattle.rules.specs.declared.counts.Counts.{Counts}
use Rattle.rules.specs.declared.region.Region.{Region}
use Rattle.rules.specs.Lists.{first, place}
use Rattle.rules.specs.State.{State}
use Rattle.rules.specs.Refusals.{begins, covers, region_refusal}
use Rattle.rules.specs.Rules.{Reply}
use Rattle.tables.specs.declared.table.Tables.{Tables}
use Rattle.tables.specs.Held.{state_of}
use Rattle.memory_meaning.specs.Storing.{StoresBelow}

-- a call that answers nothing but that it was done
abbrev pub done_reply : {U : Type 0} → Result U MemoryRefusal → Reply
done_reply (Ok u) = Ok Done
done_reply (Err e) = Err e

-- a sync answers how many words it stored
abbrev pub synced_reply : Result ℕ MemoryRefusal → Reply
synced_reply (Ok n) = Ok (Synced n)
synced_reply (Err e) = Err e

-- a read, a write and a wire answer their reports
abbrev pub read_reply : Result Reading MemoryRefusal → Reply
read_reply (Ok x) = Ok (ReadAnswer x)
read_reply (Err e) = Err e

abbrev pub wrote_reply : Result Report MemoryRefusal → Reply
wrote_reply (Ok x) = Ok (Wrote x)
wrote_reply (Err e) = Err e

abbrev pub wired_reply : Result Wiring MemoryRefusal → Reply
wired_reply (Ok x) = Ok (Wired x)
wired_reply (Err e) = Err e

-- a region begins at the page and has no wired place: its position
pub record FreeAt (s : State) (a p at : ℕ) : Type 0 where
  pub found : place (begins a p) s.regions ≡ Some at
  pub free : region_refusal s (first (begins a p) s.regions) ≡ None

-- the mappings of a region's pages are lowered if its protection becomes 1
pub record Restricts (v w : View) (r : Region) (q : ℕ) : Type 0 where
  pub held : (a b : ℕ) → w.held a b ≡ cond (covers a b r && q == 1) (lowered (v.held a b)) (v.held a b)
  pub marks : w.modified ≡ v.modified

-- another backing store
abbrev pub with_store : State → List ℕ → State
with_store s words = record { frames = s.frames; regions = s.regions; lies = s.lies; owners = s.owners; queue = s.queue; words = s.words; store = words; wired = s.wired; dirty = s.dirty; counts = s.counts }

-- the modified pages of an object are stored: what the tables hold then
pub record StoresObject (v w : View) (before after : Tables) (o n : ℕ) : Type 0 where
  pub pages : StoresBelow v w (vec_items before.store) (vec_items after.store) (vec_items before.words) (vec_items before.lies) o 2048 n
  pub rest : (d : ℕ → Bool) (c : Counts) → state_of after d c ≡ with_store (state_of before d c) (vec_items after.store)

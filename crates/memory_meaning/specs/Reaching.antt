-- An access carried to the frame of its object page. Assumes nothing.
use Rattle.std.specs.Prelude.{◌≡◌, ℕ, Bool, cond, not, Some, None, Option}
use Rattle.refusal.specs.declared.memory.MemoryRefusal.{MemoryRefusal}
use Rattle.refusal.specs.declared.memory.MemoryRefusal.TheVariants.{Range}
use Rattle.pmap.specs.Meaning.{View, marked}
use Rattle.pmap.specs.Ranges.{fits_place}
use Rattle.rules.specs.declared.answer.Report.{Report}
use Rattle.rules.specs.State.{State, lie}
use Rattle.rules.specs.Refusals.{refuse, cover, read_refusal, write_refusal, wants_frame}
use Rattle.rules.specs.Paging.{resident}
use Rattle.rules.specs.Rules.{page_at, report_of}
use Rattle.tables.specs.Held.{with_dirty}
use Rattle.memory_meaning.specs.Ready.{serves}
use Rattle.memory_meaning.specs.Leaves.{Touches}

-- why a read or write is refused
abbrev pub access_refusal : State → ℕ → ℕ → Bool → Option MemoryRefusal
access_refusal s a p write =
    refuse (not (fits_place a p)) Range (cond write (write_refusal s p (cover s.regions a p)) (read_refusal s p (cover s.regions a p)))

-- the access came to a frame: the report, the frame of the object page, the state and what is left in the pmap
pub record Reaches (v w : View) (s t : State) (a p : ℕ) (write : Bool) (frame : ℕ) (report : Report) : Type 0 where
  pub room : wants_frame s (lie s (page_at s a p)) ≡ None
  pub reported : report ≡ report_of s (page_at s a p) (serves (v.held a p) write)
  pub lies : lie (resident s (page_at s a p)) (page_at s a p) ≡ Some frame
  pub state : t ≡ with_dirty (resident s (page_at s a p)) (marked (resident s (page_at s a p)).dirty write frame)
  pub view : Touches v w s a p (serves (v.held a p) write)

-- nothing moved
pub record Unmoved (v w : View) (s t : State) : Type 0 where
  pub state : t ≡ s
  pub held : (a b : ℕ) → w.held a b ≡ v.held a b

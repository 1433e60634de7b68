-- What each call answers, and what it leaves, refusals included. Assumes nothing.
-- A number out of range is refused first; then a wired enter is refused where eight other slots are wired. A refused call changes nothing.
use Rattle.std.specs.Prelude.{ℕ, Bool, false, cond, not, ◌&&◌, Some, None, Ok, Err, Option, Result, ◌==◌, nat_le}
use Rattle.refusal.specs.declared.pmap.PmapRefusal.{PmapRefusal}
use Rattle.refusal.specs.declared.pmap.PmapRefusal.TheVariants.{Range, WiredFull}
use Rattle.pmap.specs.Ranges.{fits_place, fits_frame, fits_entry}
use Rattle.pmap.specs.Meaning.{Mapping, answered}
use Rattle.pmap.specs.Tally.{tally}
use Rattle.pmap.specs.declared.access.Access.{Access}
use Rattle.powerpc_words.specs.Fields.{frame_of, protection_of}
use Rattle.powerpc_words.specs.State.{State, second, wired_at}
use Rattle.powerpc_words.specs.Search.{lookup}
use Rattle.powerpc_words.specs.Changes.{entered, removed, restricted, dropped, unwired, accessed, modified_in, unmarked}

-- what a slot holds: frame, protection, wired mark
abbrev pub mapping_at : State → Option ℕ → Option Mapping
mapping_at st None = None
mapping_at st (Some k) = Some (frame_of (second st k), protection_of (second st k), wired_at st k)

-- what the board holds at a place: what the hardware's lookup finds
unfoldable pub holds : State → ℕ → ℕ → Option Mapping
holds st space page = mapping_at st (lookup st.words space page)

abbrev pub is_slot : Option ℕ → ℕ → Bool
is_slot None k = false
is_slot (Some j) k = k == j

-- slot k is wired and is not the one given
unfoldable pub wired_beside : State → Option ℕ → ℕ → Bool
wired_beside st own k = wired_at st k && not (is_slot own k)

-- eight other slots are wired
unfoldable pub crowded : State → ℕ → ℕ → Bool
crowded st space page = nat_le 8 (tally (wired_beside st (lookup st.words space page)) 8192)

abbrev pub or_range : {A : Type 0} → Bool → A → Result A PmapRefusal
or_range fits a = cond fits (Ok a) (Err Range)

abbrev pub enter_answer : State → ℕ → ℕ → ℕ → ℕ → Bool → Result (Unit {0}) PmapRefusal
enter_answer st space page frame protection wired =
    cond (fits_entry space page frame protection) (cond (wired && crowded st space page) (Err WiredFull) (Ok tt)) (Err Range)

abbrev pub enter_leaves : State → ℕ → ℕ → ℕ → ℕ → Bool → State
enter_leaves st space page frame protection wired =
    cond (fits_entry space page frame protection)
    (cond (wired && crowded st space page) st (entered st space page frame protection wired))
    st

abbrev pub remove_leaves : State → ℕ → ℕ → State
remove_leaves st space page = cond (fits_place space page) (removed st space page) st

abbrev pub lower_leaves : State → ℕ → ℕ → State
lower_leaves st space page = cond (fits_place space page) (restricted st space page) st

abbrev pub unwire_leaves : State → ℕ → ℕ → State
unwire_leaves st space page = cond (fits_place space page) (unwired st space page) st

abbrev pub drop_leaves : State → ℕ → State
drop_leaves st frame = cond (fits_frame frame) (dropped st frame) st

abbrev pub access_answer : State → ℕ → ℕ → Bool → Result Access PmapRefusal
access_answer st space page write = or_range (fits_place space page) (answered (holds st space page) write)

abbrev pub access_leaves : State → ℕ → ℕ → Bool → State
access_leaves st space page write = cond (fits_place space page) (accessed st space page write) st

abbrev pub find_answer : State → ℕ → ℕ → Result (Option Mapping) PmapRefusal
find_answer st space page = or_range (fits_place space page) (holds st space page)

abbrev pub modified_answer : State → ℕ → Result Bool PmapRefusal
modified_answer st frame = or_range (fits_frame frame) (modified_in st frame)

abbrev pub unmark_leaves : State → ℕ → State
unmark_leaves st frame = cond (fits_frame frame) (unmarked st frame) st

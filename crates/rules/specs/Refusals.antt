-- Which call is refused, and why: of the refusals that fit, the one of the smallest number. Assumes nothing.
use Rattle.std.specs.Prelude.{ℕ, ◌+◌, Bool, cond, not, ◌&&◌, ◌||◌, List, length, Some, None, Option, ◌==◌, nat_le, nat_lt}
use Rattle.refusal.specs.declared.memory.MemoryRefusal.{MemoryRefusal}
use Rattle.refusal.specs.declared.memory.MemoryRefusal.TheVariants.{CallLimit, Range, Overlap, RegionsFull, NoRegion, ReadOnly, Wired, NotWired, WiredFull, NoFrame}
use Rattle.pmap.specs.Ranges.{fits_place, fits_protection}
use Rattle.calls.specs.declared.Call.{Call}
use Rattle.calls.specs.declared.Call.TheVariants.{Map, Unmap, Protect, Read, Write, Wire, Unwire, Sync}
use Rattle.rules.specs.declared.region.Region.{Region}
use Rattle.rules.specs.declared.region.WiredPlace.{WiredPlace}
use Rattle.rules.specs.Lists.{first, any}
use Rattle.rules.specs.State.{State, lie, page_in}

-- the refusal where the test holds, else what the rest says
abbrev pub refuse : Bool → MemoryRefusal → Option MemoryRefusal → Option MemoryRefusal
refuse test e rest = cond test (Some e) rest

-- a region covers a page, or begins there
abbrev pub covers : ℕ → ℕ → Region → Bool
covers s p r = r.space == s && (nat_le r.first p && nat_lt p (r.first + r.count))

abbrev pub begins : ℕ → ℕ → Region → Bool
begins s p r = r.space == s && r.first == p

-- a region of the space shares a page with count pages from the first on
abbrev pub overlaps : ℕ → ℕ → ℕ → Region → Bool
overlaps s from count r = r.space == s && (nat_lt r.first (from + count) && nat_lt from (r.first + r.count))

abbrev pub cover : List Region → ℕ → ℕ → Option Region
cover rs s p = first (covers s p) rs

-- the wired place is this one, lies in a region, or is wired to a frame
abbrev pub is_place : ℕ → ℕ → WiredPlace → Bool
is_place s p w = w.space == s && w.page == p

abbrev pub in_region : Region → WiredPlace → Bool
in_region r w = covers w.space w.page r

abbrev pub on_frame : ℕ → WiredPlace → Bool
on_frame f w = w.frame == f

-- the numbers of a map: all in range, the count not 0, and the region within its space and its object
abbrev pub fits_map : ℕ → ℕ → ℕ → ℕ → ℕ → ℕ → Bool
fits_map s p count object offset q =
    fits_place s p && (fits_protection q && (nat_lt object 8 && (nat_lt 0 count && (nat_le (p + count) 262144 && nat_le (offset + count) 256))))

-- a frame is there to be taken: one is unused, or the mapping of some frame in use is not wired
abbrev pub free : List WiredPlace → ℕ → Bool
free wired f = not (any (on_frame f) wired)

abbrev pub has_frame : State → Bool
has_frame s = nat_lt (length s.queue) s.frames || any (free s.wired) s.queue

-- a page that is not resident needs a frame
abbrev pub wants_frame : State → Option ℕ → Option MemoryRefusal
wants_frame s None = refuse (not (has_frame s)) NoFrame None
wants_frame s (Some f) = None

abbrev pub read_refusal : State → ℕ → Option Region → Option MemoryRefusal
read_refusal s p None = Some NoRegion
read_refusal s p (Some r) = wants_frame s (lie s (page_in r p))

abbrev pub write_refusal : State → ℕ → Option Region → Option MemoryRefusal
write_refusal s p None = Some NoRegion
write_refusal s p (Some r) = refuse (r.protection == 1) ReadOnly (wants_frame s (lie s (page_in r p)))

abbrev pub wire_refusal : State → ℕ → ℕ → Option Region → Option MemoryRefusal
wire_refusal s a p None = Some NoRegion
wire_refusal s a p (Some r) =
    refuse (any (is_place a p) s.wired) Wired (refuse (nat_le 8 (length s.wired)) WiredFull (wants_frame s (lie s (page_in r p))))

-- an unmap or protect of the region that begins at a page
abbrev pub region_refusal : State → Option Region → Option MemoryRefusal
region_refusal s None = Some NoRegion
region_refusal s (Some r) = refuse (any (in_region r) s.wired) Wired None

abbrev pub call_refusal : State → Call → Option MemoryRefusal
call_refusal s (Map a p count object offset q) =
    refuse (not (fits_map a p count object offset q)) Range
    (refuse (any (overlaps a p count) s.regions) Overlap (refuse (nat_le 64 (length s.regions)) RegionsFull None))
call_refusal s (Unmap a p) = refuse (not (fits_place a p)) Range (region_refusal s (first (begins a p) s.regions))
call_refusal s (Protect a p q) =
    refuse (not (fits_place a p && fits_protection q)) Range (region_refusal s (first (begins a p) s.regions))
call_refusal s (Read a p) = refuse (not (fits_place a p)) Range (read_refusal s p (cover s.regions a p))
call_refusal s (Write a p w) = refuse (not (fits_place a p)) Range (write_refusal s p (cover s.regions a p))
call_refusal s (Wire a p) = refuse (not (fits_place a p)) Range (wire_refusal s a p (cover s.regions a p))
call_refusal s (Unwire a p) = refuse (not (fits_place a p)) Range (refuse (not (any (is_place a p) s.wired)) NotWired None)
call_refusal s (Sync object) = refuse (not (nat_lt object 8)) Range None

-- a memory that has taken 1,000,000 calls refuses every further one
abbrev pub refusal : State → Call → Option MemoryRefusal
refusal s c = refuse (nat_le 1000000 s.counts.calls) CallLimit (call_refusal s c)

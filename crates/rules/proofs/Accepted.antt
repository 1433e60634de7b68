-- What an accepted call passed, and that each call leaves what the state of a memory keeps. Assumes nothing.
use Rattle.std.proofs.Common.{◌≡◌, ℕ, ◌+◌, ◌/◌, ◌<◌, ◌≤◌, Bool, true, not, ◌&&◌, eqb, ltb, leb, length, Some, None, Option, refl, ap, ◌∙◌, arith}
use Rattle.std.proofs.lemmas.List.{length_push}
use Rattle.std.proofs.ByRecursion.{All-push}
use Rattle.std.proofs.lemmas.Bool.{ltb-true, leb-true, leb-false, eqb-true, not-false, and_parts, and_from}
use Rattle.refusal.specs.declared.memory.MemoryRefusal.{MemoryRefusal}
use Rattle.refusal.specs.declared.memory.MemoryRefusal.TheVariants.{CallLimit, Range, Overlap, RegionsFull, ReadOnly, Wired, WiredFull}
use Rattle.pmap.specs.Ranges.{fits_place, fits_protection}
use Rattle.calls.specs.declared.Call.{Call}
use Rattle.calls.specs.declared.Call.TheVariants.{Map, Unmap, Protect, Read, Write, Wire, Unwire, Sync}
use Rattle.rules.specs.declared.region.Region.{Region}
use Rattle.rules.specs.Lists.{first, any, without, changed}
use Rattle.rules.specs.State.{State, lie, page_in}
use Rattle.rules.specs.Refusals.{refuse, covers, cover, begins, overlaps, is_place, wants_frame, fits_map, read_refusal, write_refusal, wire_refusal, region_refusal, call_refusal, refusal}
use Rattle.rules.specs.Paging.{resident, evicted_by}
use Rattle.rules.specs.Rules.{page_at, object_page, mapped, with_protection, moved, moved_by, after, reply, counted}
use Rattle.rules.specs.Good.{Good, RegionFits}
use Rattle.rules.proofs.Lists.{never, first_passes, first_all_of, all_without, length_without_le, all_changed, length_changed}
use Rattle.rules.proofs.GoodKept.{refuse_none, Brought, brings, good_with_regions, good_with_counts, good_wired, good_unwired, good_written, good_synced}

-- the numbers of a region, and of a page that it covers

pub record Fits (r : Region) : Type 0 where
  pub object : r.object < 8
  pub offset : r.offset + r.count ≤ 256
  pub count : 0 < r.count
  pub pages : r.first + r.count ≤ 262144
  pub space : r.space < 4
  pub first : r.first < 262144

pub fits : (r : Region) → RegionFits r → Fits r
fits r h =
    let a = and_parts (fits_place r.space r.first) (fits_protection r.protection && (ltb r.object 8 && (ltb 0 r.count && (leb (r.first + r.count) 262144 && leb (r.offset + r.count) 256)))) h in
    let p = and_parts (ltb r.space 4) (ltb r.first 262144) a.0 in
    let b = and_parts (fits_protection r.protection) (ltb r.object 8 && (ltb 0 r.count && (leb (r.first + r.count) 262144 && leb (r.offset + r.count) 256))) a.1 in
    let c = and_parts (ltb r.object 8) (ltb 0 r.count && (leb (r.first + r.count) 262144 && leb (r.offset + r.count) 256)) b.1 in
    let d = and_parts (ltb 0 r.count) (leb (r.first + r.count) 262144 && leb (r.offset + r.count) 256) c.1 in
    let e = and_parts (leb (r.first + r.count) 262144) (leb (r.offset + r.count) 256) d.1 in
    record {
      object = ltb-true r.object 8 c.0;
      offset = leb-true (r.offset + r.count) 256 e.1;
      count = ltb-true 0 r.count d.0;
      pages = leb-true (r.first + r.count) 262144 e.0;
      space = ltb-true r.space 4 p.0;
      first = ltb-true r.first 262144 p.1;
    }

-- a place that a region covers stands for a page of the region's object
pub record Covered (r : Region) (a p : ℕ) : Type 0 where
  pub fits : RegionFits r
  pub space : r.space ≡ a
  pub from : r.first ≤ p
  pub upto : p < r.first + r.count
  pub page_low : page_in r p < 2048
  pub page_object : page_in r p / 256 ≡ r.object

pub covered : (s : State) (a p : ℕ) (r : Region) → Good s → cover s.regions a p ≡ Some r → Covered r a p
covered s a p r g e =
    let within = first_passes (covers a p) s.regions r e in
    let fit : RegionFits r = first_all_of (covers a p) RegionFits s.regions r g.regions_fit e in
    let n = fits r fit in
    let h = and_parts (eqb r.space a) (leb r.first p && ltb p (r.first + r.count)) within in
    let k = and_parts (leb r.first p) (ltb p (r.first + r.count)) h.1 in
    let from : r.first ≤ p = leb-true r.first p k.0 in
    let upto : p < r.first + r.count = ltb-true p (r.first + r.count) k.1 in
    record {
      fits = fit;
      space = eqb-true r.space a h.0;
      from = from;
      upto = upto;
      page_low = omega (arith, n.object, n.offset);
      page_object = omega (arith, n.offset);
    }

-- an accepted read, write or wire is to an object page that is resident or finds a frame
pub record Reaches (s : State) (a p : ℕ) : Type 0 where
  pub region : Region
  pub found : cover s.regions a p ≡ Some region
  pub page : page_at s a p ≡ page_in region p
  pub low : page_at s a p < 2048
  pub room : wants_frame s (lie s (page_at s a p)) ≡ None

module _ (s : State) (a p : ℕ) (g : Good s) where
  reaches : (r : Region) → cover s.regions a p ≡ Some r → wants_frame s (lie s (page_in r p)) ≡ None → Reaches s a p
  reaches r e w =
      let same : page_at s a p ≡ page_in r p = ap (λ o. object_page o p) e in
      let c = covered s a p r g e in
      record { region = r; found = e; page = same; low = (let h = c.page_low in omega arith); room = ap (λ x. wants_frame s (lie s x)) same ∙ w }

  pub read_reaches : read_refusal s p (cover s.regions a p) ≡ None → Reaches s a p
  read_reaches w = by (cover s.regions a p) refl w
    where
      by : (o : Option Region) → cover s.regions a p ≡ o → read_refusal s p o ≡ None → Reaches s a p
      by None e w = never (cc)
      by (Some r) e w = reaches r e w

  pub write_reaches : write_refusal s p (cover s.regions a p) ≡ None → Reaches s a p
  write_reaches w = by (cover s.regions a p) refl w
    where
      by : (o : Option Region) → cover s.regions a p ≡ o → write_refusal s p o ≡ None → Reaches s a p
      by None e w = never (cc)
      by (Some r) e w = reaches r e (refuse_none (eqb r.protection 1) ReadOnly (wants_frame s (lie s (page_in r p))) w).1

  -- a wire also finds fewer than eight places wired
  pub wire_reaches : wire_refusal s a p (cover s.regions a p) ≡ None → Reaches s a p × (length s.wired < 8)
  wire_reaches w = by (cover s.regions a p) refl w
    where
      by : (o : Option Region) → cover s.regions a p ≡ o → wire_refusal s a p o ≡ None → Reaches s a p × (length s.wired < 8)
      by None e w = never (cc)
      by (Some r) e w =
          let rest = refuse_none (any (is_place a p) s.wired) Wired (refuse (leb 8 (length s.wired)) WiredFull (wants_frame s (lie s (page_in r p)))) w in
          let few = refuse_none (leb 8 (length s.wired)) WiredFull (wants_frame s (lie s (page_in r p))) rest.1 in
          (reaches r e few.1, leb-false 8 (length s.wired) few.0)

-- accepted calls

pub in_range : (s : State) (a p : ℕ) (o : Option MemoryRefusal) → refuse (not (fits_place a p)) Range o ≡ None → o ≡ None
in_range s a p o e = (refuse_none (not (fits_place a p)) Range o e).1

pub not_limited : (s : State) (c : Call) → refusal s c ≡ None → call_refusal s c ≡ None
not_limited s c e = (refuse_none (leb 1000000 s.counts.calls) CallLimit (call_refusal s c) e).1

pub read_passed : (s : State) (a p : ℕ) → Good s → call_refusal s (Read a p) ≡ None → Reaches s a p
read_passed s a p g e = read_reaches s a p g (in_range s a p (read_refusal s p (cover s.regions a p)) e)

pub write_passed : (s : State) (a p w : ℕ) → Good s → call_refusal s (Write a p w) ≡ None → Reaches s a p
write_passed s a p w g e = write_reaches s a p g (in_range s a p (write_refusal s p (cover s.regions a p)) e)

pub wire_passed : (s : State) (a p : ℕ) → Good s → call_refusal s (Wire a p) ≡ None → Reaches s a p × (length s.wired < 8)
wire_passed s a p g e = wire_reaches s a p g (in_range s a p (wire_refusal s a p (cover s.regions a p)) e)

-- the page of an accepted read, write or wire is brought in
pub reached : (s : State) (a p : ℕ) (g : Good s) (r : Reaches s a p) → Brought s (resident s (page_at s a p)) (page_at s a p) (evicted_by s (lie s (page_at s a p)))
reached s a p g r = brings s (page_at s a p) g r.low r.room

-- what the state keeps

pub good_mapped : (s : State) (a p count object offset q : ℕ) → Good s → call_refusal s (Map a p count object offset q) ≡ None → Good (moved s (Map a p count object offset q))
good_mapped s a p count object offset q g e =
    let new : Region = record { space = a; first = p; count = count; object = object; offset = offset; protection = q } in
    let h = refuse_none (not (fits_map a p count object offset q)) Range (refuse (any (overlaps a p count) s.regions) Overlap (refuse (leb 64 (length s.regions)) RegionsFull None)) e in
    let k = refuse_none (any (overlaps a p count) s.regions) Overlap (refuse (leb 64 (length s.regions)) RegionsFull None) h.1 in
    let few = leb-false 64 (length s.regions) (refuse_none (leb 64 (length s.regions)) RegionsFull None k.1).0 in
    good_with_regions s (mapped s.regions a p count object offset q) g
    (omega (arith, length_push s.regions new))
    (All-push RegionFits s.regions new g.regions_fit (not-false (fits_map a p count object offset q) h.0))

pub good_unmapped : (s : State) (a p : ℕ) → Good s → Good (moved s (Unmap a p))
good_unmapped s a p g =
    good_with_regions s (without (begins a p) s.regions) g
    (let few = g.regions_few in omega (arith, length_without_le (begins a p) s.regions))
    (all_without (begins a p) RegionFits s.regions g.regions_fit)

pub good_protected : (s : State) (a p q : ℕ) → Good s → call_refusal s (Protect a p q) ≡ None → Good (moved s (Protect a p q))
good_protected s a p q g e =
    good_with_regions s (changed (begins a p) (with_protection q) s.regions) g
    (let few = g.regions_few in omega (arith, length_changed (begins a p) (with_protection q) s.regions))
    (all_changed (begins a p) (with_protection q) RegionFits keep s.regions g.regions_fit)
  where
    passed : (fits_place a p && fits_protection q) ≡ true
    passed = not-false (fits_place a p && fits_protection q) (refuse_none (not (fits_place a p && fits_protection q)) Range (region_refusal s (first (begins a p) s.regions)) e).0

    keep : (r : Region) → RegionFits r → RegionFits (with_protection q r)
    keep r h =
        let rest = ltb r.object 8 && (ltb 0 r.count && (leb (r.first + r.count) 262144 && leb (r.offset + r.count) 256)) in
        let a' = and_parts (fits_place r.space r.first) (fits_protection r.protection && rest) h in
        let b = and_parts (fits_protection r.protection) rest a'.1 in
        and_from (fits_place r.space r.first) (fits_protection q && rest) a'.0 (and_from (fits_protection q) rest (and_parts (fits_place a p) (fits_protection q) passed).1 b.1)

pub good_moved : (s : State) (c : Call) → Good s → call_refusal s c ≡ None → Good (moved s c)
good_moved s (Map a p count object offset q) g e = good_mapped s a p count object offset q g e
good_moved s (Unmap a p) g e = good_unmapped s a p g
good_moved s (Protect a p q) g e = good_protected s a p q g e
good_moved s (Read a p) g e = (reached s a p g (read_passed s a p g e)).good
good_moved s (Write a p w) g e =
    let t = resident s (page_at s a p) in
    let b = reached s a p g (write_passed s a p w g e) in
    rw b.lies (good_written t (page_at s a p) b.frame w b.good b.lies)
good_moved s (Wire a p) g e =
    let t = resident s (page_at s a p) in
    let passed = wire_passed s a p g e in
    let b = reached s a p g passed.0 in
    rw b.lies (good_wired t a p (page_at s a p) b.frame b.good b.lies (let h = ap length b.wired in let k = passed.1 in omega arith))
good_moved s (Unwire a p) g e = good_unwired s a p g
good_moved s (Sync o) g e = good_synced s o g

pub good_after : (s : State) (c : Call) (hit : Bool) → Good s → Good (after s c hit)
good_after s c hit g = good_with_counts (moved_by s c (refusal s c)) (counted s.counts (reply s c hit)) (by (refusal s c) refl)
  where
    by : (o : Option MemoryRefusal) → refusal s c ≡ o → Good (moved_by s c o)
    by None e = good_moved s c g (not_limited s c e)
    by (Some r) e = g

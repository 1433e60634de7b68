-- Each call leaves what the state of a memory keeps. Assumes nothing.
use Rattle.std.proofs.Common.{◌≡◌, ℕ, ◌+◌, ◌*◌, ◌/◌, ◌%◌, ◌<◌, ◌≤◌, Bool, true, false, cond, not, ◌&&◌, eqb, List, [], ◌∷◌, ◌++◌, length, get_or, replicate, Some, None, Option, sym, refl, ap, ◌∙◌, ⊎_elim, arith}
use Rattle.std.specs.List.{AllByRecursion}
use Rattle.std.proofs.lemmas.List.{length-set, length_push, length-replicate, get_or-replicate, get_or-set_other, get_or_past}
use Rattle.std.proofs.lemmas.List.FromFn.{length-range_with_len, length-map-range_with_len, get_or-map-range_with_len}
use Rattle.std.proofs.ByRecursion.{All-push}
use Rattle.std.proofs.lemmas.Bool.{cases_Bool, cases_lt, eq-eqb, eqb-true, eqb-false, ltb-true, not-false, and_parts, and_from, and_cases, and_right, or_parts, or_cases, cond-true, cond-false}
use Rattle.refusal.specs.declared.memory.MemoryRefusal.{MemoryRefusal}
use Rattle.refusal.specs.declared.memory.MemoryRefusal.TheVariants.{NoFrame}
use Rattle.rules.specs.declared.answer.Evicted.{Evicted}
use Rattle.rules.specs.declared.counts.Counts.{Counts}
use Rattle.rules.specs.declared.region.Region.{Region}
use Rattle.rules.specs.declared.region.WiredPlace.{WiredPlace}
use Rattle.rules.specs.Lists.{any, without}
use Rattle.rules.specs.State.{State, lie, dirty_in, is_modified, no_pages, no_frames, starting_words, fresh}
use Rattle.rules.specs.Refusals.{refuse, is_place, free, has_frame, wants_frame}
use Rattle.rules.specs.Paging.{owner, victim, evict, load, unused, replaced, replaced_page, evicted_page, brought, brought_out, resident_by, resident, evicted_by, written_to, word_in, stored_word, stored_words, synced}
use Rattle.rules.specs.Rules.{with_regions, with_wired, wired_to, with_counts}
use Rattle.rules.specs.Good.{Good, in_use, RegionFits}
use Rattle.rules.specs.Laws.{IsEvicted}
use Rattle.rules.proofs.Lists.{never, first_passes, first_some, all_without, length_without_le}
use Rattle.rules.proofs.Queues.{first_has}
use Rattle.rules.proofs.Loads.{content, word_of, lie_low, Ready, ready_unused, ready_evicted, lie_evict, content_evict, modified_evict, modified_evicted, lie_loaded, content_load, modified_load, good_loaded}

-- what is not refused passed the test
pub refuse_none : (b : Bool) (e : MemoryRefusal) (o : Option MemoryRefusal) → refuse b e o ≡ None → (b ≡ false) × (o ≡ None)
refuse_none true e o h = never (cc)
refuse_none false e o h = (refl, h)

-- a page is brought in

pub record Brought (s t : State) (x : ℕ) (out : Option Evicted) : Type 0 where
  pub good : Good t
  pub frame : ℕ
  pub lies : lie t x ≡ Some frame
  pub frames : t.frames ≡ s.frames
  pub regions : t.regions ≡ s.regions
  pub wired : t.wired ≡ s.wired
  pub counts : t.counts ≡ s.counts
  pub words : (y : ℕ) → content t y ≡ content s y
  pub stays : (y : ℕ) → (IsEvicted y out → ⊥) → is_modified t y ≡ is_modified s y
  pub goes : (y : ℕ) → IsEvicted y out → is_modified t y ≡ false
  pub other : IsEvicted x out → ⊥

module _ (s : State) (x : ℕ) (g : Good s) (low : x < 2048) where
  brings_here : (f : ℕ) → lie s x ≡ Some f → Brought s s x None
  brings_here f e = record {
    good = g;
    frame = f;
    lies = e;
    frames = refl;
    regions = refl;
    wired = refl;
    counts = refl;
    words = λ y. refl;
    stays = λ y n. refl;
    goes = λ y e. absurd e;
    other = λ e. e;
  }

  brings_unused : lie s x ≡ None → length s.queue < s.frames → Brought s (load s x (length s.queue)) x None
  brings_unused absent room =
      let f = length s.queue in
      let r = ready_unused s g room in
      record {
        good = good_loaded s x f r low absent;
        frame = f;
        lies = lie_loaded s x f r low absent;
        frames = refl;
        regions = refl;
        wired = refl;
        counts = refl;
        words = content_load s x f r low absent;
        stays = λ y n. modified_load s x f r low absent y;
        goes = λ y e. absurd e;
        other = λ e. e;
      }

  brings_victim : (f : ℕ) → lie s x ≡ None → victim s ≡ Some f → Brought s (load (evict s f) x f) x (Some (evicted_page s f))
  brings_victim f absent v =
      record {
        good = good_loaded t x f r low gone;
        frame = f;
        lies = lie_loaded t x f r low gone;
        frames = refl;
        regions = refl;
        wired = refl;
        counts = refl;
        words = λ y. content_load t x f r low gone y ∙ content_evict s f g used y;
        stays = λ y n. modified_load t x f r low gone y ∙ modified_evict s f g used y (λ e. n (is_owner ∙ sym e));
        goes = λ y e. modified_load t x f r low gone y ∙ ap (is_modified t) (sym e ∙ is_owner) ∙ modified_evicted s f g used;
        other = λ e. (let here : lie s (owner s f) ≡ lie s x = ap (lie s) (sym is_owner ∙ e) in let there = g.owner_lies f used in never (cc));
      }
    where
      t : State
      t = evict s f

      used : in_use s f ≡ true
      used = first_has (free s.wired) s.queue f v

      r : Ready t f
      r = ready_evicted s f g used (first_passes (free s.wired) s.queue f v)

      is_owner : 256 * (owner s f / 256) + owner s f % 256 ≡ owner s f
      is_owner = omega arith

      n : x ≡ owner s f → ⊥
      n e = let here : lie s x ≡ lie s (owner s f) = ap (lie s) e in let there = g.owner_lies f used in never (cc)

      gone : lie t x ≡ None
      gone = lie_evict s f g used x n ∙ absent

  brings_new : lie s x ≡ None → has_frame s ≡ true → Brought s (brought s x) x (brought_out s)
  brings_new absent has = by (unused s) refl
    where
      by_victim : (o : Option ℕ) → victim s ≡ o → any (free s.wired) s.queue ≡ true → Brought s (replaced s x o) x (replaced_page s o)
      by_victim None e some = let is = first_some (free s.wired) s.queue some in let k = is.1 in never (cc)
      by_victim (Some f) e some = brings_victim f absent e

      by : (b : Bool) → unused s ≡ b → Brought s (cond b (load s x (length s.queue)) (replaced s x (victim s))) x (cond b None (replaced_page s (victim s)))
      by true e = brings_unused absent (ltb-true (length s.queue) s.frames e)
      by false e = by_victim (victim s) refl (simp e at has)

  pub brings : wants_frame s (lie s x) ≡ None → Brought s (resident s x) x (evicted_by s (lie s x))
  brings room = by (lie s x) refl room
    where
      by : (o : Option ℕ) → lie s x ≡ o → wants_frame s o ≡ None → Brought s (resident_by s x o) x (evicted_by s o)
      by None e w = brings_new e (not-false (has_frame s) (refuse_none (not (has_frame s)) NoFrame None w).0)
      by (Some f) e w = brings_here f e

  pub good_resident : wants_frame s (lie s x) ≡ None → Good (resident s x)
  good_resident room = (brings room).good

  pub resident_lies : wants_frame s (lie s x) ≡ None → (f : ℕ) × (lie (resident s x) x ≡ Some f)
  resident_lies room = ((brings room).frame, (brings room).lies)

-- a new memory

none_at : (n x : ℕ) → get_or {A = Option ℕ} (replicate n None) x None ≡ None
none_at n x = ⊎_elim
    (λ (h : x < n). get_or-replicate n x None None h)
    (λ (h : n ≤ x). get_or_past (replicate n None) x None (let l = length-replicate {A = Option ℕ} n None in omega arith))
    (cases_lt x n)

pub no_lie : (n x : ℕ) → lie (fresh n) x ≡ None
unfolding no_pages
no_lie n x = none_at 2048 x

no_use : (n f : ℕ) → in_use (fresh n) f ≡ true → ⊥
unfolding any
no_use n f e = never (cc)

pub good_fresh : (n : ℕ) → n ≤ 256 → Good (fresh n)
unfolding no_pages no_frames starting_words
good_fresh n few = record {
  frames_few = few;
  lies_long = length-replicate {A = Option ℕ} 2048 None;
  owners_long = length-replicate {A = ℕ} 256 0;
  words_long = length-replicate {A = ℕ} 256 0;
  store_long = length-range_with_len 0 2048;
  regions_few = omega arith;
  regions_fit = tt;
  queue_few = omega arith;
  queue_low = λ f u. absurd (no_use n f u);
  queue_apart = λ i j h. absurd (omega arith);
  lies_used = λ x f e. (let z = no_lie n x in never (cc));
  lies_owned = λ x f e. (let z = no_lie n x in never (cc));
  owner_lies = λ f u. absurd (no_use n f u);
  dirty_used = λ f e. never (cc);
  clean = λ x f e d. (let z = no_lie n x in never (cc));
  wired_few = omega arith;
  wired_used = tt;
}

-- other regions, wired places or counts

good_with : (s : State) (rs : List Region) (ws : List WiredPlace) (n : Counts) → Good s → length rs ≤ 64 → AllByRecursion RegionFits rs → length ws ≤ 8 → AllByRecursion (λ w. in_use s w.frame ≡ true) ws → Good (with_counts (with_wired (with_regions s rs) ws) n)
good_with s rs ws n g rs-few rs-fit ws-few ws-used = record {
  frames_few = g.frames_few;
  lies_long = g.lies_long;
  owners_long = g.owners_long;
  words_long = g.words_long;
  store_long = g.store_long;
  regions_few = rs-few;
  regions_fit = rs-fit;
  queue_few = g.queue_few;
  queue_low = g.queue_low;
  queue_apart = g.queue_apart;
  lies_used = g.lies_used;
  lies_owned = g.lies_owned;
  owner_lies = g.owner_lies;
  dirty_used = g.dirty_used;
  clean = g.clean;
  wired_few = ws-few;
  wired_used = ws-used;
}

pub good_with_regions : (s : State) (rs : List Region) → Good s → length rs ≤ 64 → AllByRecursion RegionFits rs → Good (with_regions s rs)
good_with_regions s rs g few fit = good_with s rs s.wired s.counts g few fit g.wired_few g.wired_used

pub good_with_wired : (s : State) (ws : List WiredPlace) → Good s → length ws ≤ 8 → AllByRecursion (λ w. in_use s w.frame ≡ true) ws → Good (with_wired s ws)
good_with_wired s ws g few used = good_with s s.regions ws s.counts g g.regions_few g.regions_fit few used

pub good_with_counts : (s : State) (n : Counts) → Good s → Good (with_counts s n)
good_with_counts s n g = good_with s s.regions s.wired n g g.regions_few g.regions_fit g.wired_few g.wired_used

pub good_wired : (s : State) (a p x f : ℕ) → Good s → lie s x ≡ Some f → length s.wired < 8 → Good (wired_to s a p (Some f))
good_wired s a p x f g e few =
    good_with_wired s (s.wired ++ (record { space = a; page = p; frame = f } ∷ [])) g
    (omega (arith, length_push s.wired (record { space = a; page = p; frame = f })))
    (All-push (λ w. in_use s w.frame ≡ true) s.wired (record { space = a; page = p; frame = f }) g.wired_used (g.lies_used x f e))

pub good_unwired : (s : State) (a p : ℕ) → Good s → Good (with_wired s (without (is_place a p) s.wired))
good_unwired s a p g =
    good_with_wired s (without (is_place a p) s.wired) g
    (let h = g.wired_few in omega (arith, length_without_le (is_place a p) s.wired))
    (all_without (is_place a p) (λ w. in_use s w.frame ≡ true) s.wired g.wired_used)

-- a word is written to the frame of a resident page
pub good_written : (s : State) (x f w : ℕ) → Good s → lie s x ≡ Some f → Good (written_to s w (Some f))
good_written s x f w g lies = record {
  frames_few = g.frames_few;
  lies_long = g.lies_long;
  owners_long = g.owners_long;
  words_long = length-set s.words f w ∙ g.words_long;
  store_long = g.store_long;
  regions_few = g.regions_few;
  regions_fit = g.regions_fit;
  queue_few = g.queue_few;
  queue_low = g.queue_low;
  queue_apart = g.queue_apart;
  lies_used = g.lies_used;
  lies_owned = g.lies_owned;
  owner_lies = g.owner_lies;
  dirty_used = λ h d. ⊎_elim
      (λ (e : s.dirty h ≡ true). g.dirty_used h e)
      (λ (e : eqb h f ≡ true). ap (in_use s) (eqb-true h f e) ∙ g.lies_used x f lies)
      (or_cases (s.dirty h) (eqb h f) d);
  clean = λ y h e d. (
      let parts = or_parts (s.dirty h) (eqb h f) d in
      get_or-set_other s.words f h w 0 (eqb-false h f parts.1) ∙ g.clean y h e parts.0);
  wired_few = g.wired_few;
  wired_used = g.wired_used;
}

-- an object is synced

pub length_stored : (s : State) (o : ℕ) → length (stored_words s o) ≡ 2048
unfolding stored_words
length_stored s o = length-map-range_with_len (stored_word s o) 0 2048

pub stored_at : (s : State) (o x : ℕ) → x < 2048 → get_or (stored_words s o) x 0 ≡ stored_word s o x
unfolding stored_words
stored_at s o x h = get_or-map-range_with_len (stored_word s o) 0 2048 x x 0 h (omega arith)

pub stored_past : (s : State) (o x : ℕ) → 2048 ≤ x → get_or (stored_words s o) x 0 ≡ 0
stored_past s o x h = get_or_past (stored_words s o) x 0 (let l = length_stored s o in omega arith)

-- a page that is not modified keeps its stored word
pub stored_same : (s : State) (o x : ℕ) → is_modified s x ≡ false → stored_word s o x ≡ get_or s.store x 0
unfolding stored_word
stored_same s o x e = cond-false (eqb (x / 256) o && is_modified s x) (word_in s (lie s x)) (get_or s.store x 0) (and_right (eqb (x / 256) o) (is_modified s x) e)

-- a page of the object has its word stored
pub stored_content : (s : State) (o x : ℕ) → Good s → x / 256 ≡ o → stored_word s o x ≡ content s x
unfolding stored_word
stored_content s o x g q = by (lie s x) refl
  where
    in_object : eqb (x / 256) o ≡ true
    in_object = eq-eqb (x / 256) o q

    by : (l : Option ℕ) → lie s x ≡ l → cond (eqb (x / 256) o && dirty_in s.dirty l) (word_in s l) (get_or s.store x 0) ≡ word_of s x l
    by None e = cond-false (eqb (x / 256) o && false) 0 (get_or s.store x 0) (and_right (eqb (x / 256) o) false refl)
    by (Some f) e = ⊎_elim
        (λ (d : s.dirty f ≡ true). cond-true (eqb (x / 256) o && s.dirty f) (get_or s.words f 0) (get_or s.store x 0) (and_from (eqb (x / 256) o) (s.dirty f) in_object d))
        (λ (d : s.dirty f ≡ false). cond-false (eqb (x / 256) o && s.dirty f) (get_or s.words f 0) (get_or s.store x 0) (and_right (eqb (x / 256) o) (s.dirty f) d) ∙ sym (g.clean x f e d))
        (cases_Bool (s.dirty f))

pub good_synced : (s : State) (o : ℕ) → Good s → Good (synced s o)
good_synced s o g = record {
  frames_few = g.frames_few;
  lies_long = g.lies_long;
  owners_long = g.owners_long;
  words_long = g.words_long;
  store_long = length_stored s o;
  regions_few = g.regions_few;
  regions_fit = g.regions_fit;
  queue_few = g.queue_few;
  queue_low = g.queue_low;
  queue_apart = g.queue_apart;
  lies_used = g.lies_used;
  lies_owned = g.lies_owned;
  owner_lies = g.owner_lies;
  dirty_used = λ f d. g.dirty_used f (and_parts (s.dirty f) (not (eqb (owner s f / 256) o)) d).0;
  clean = clean;
  wired_few = g.wired_few;
  wired_used = g.wired_used;
}
  where
    clean : (x f : ℕ) → lie s x ≡ Some f → (s.dirty f && not (eqb (owner s f / 256) o)) ≡ false → get_or s.words f 0 ≡ get_or (stored_words s o) x 0
    clean x f e d = ⊎_elim
        (λ (q : s.dirty f ≡ false).
        let m : is_modified s x ≡ false = ap (dirty_in s.dirty) e ∙ q in
        g.clean x f e q ∙ sym (stored_same s o x m) ∙ sym (stored_at s o x (lie_low s x f g e)))
        (λ (q : not (eqb (owner s f / 256) o) ≡ false).
        let object : x / 256 ≡ o = ap (λ y. y / 256) (sym (g.lies_owned x f e)) ∙ eqb-true (owner s f / 256) o (not-false (eqb (owner s f / 256) o) q) in
        sym (ap (word_of s x) e) ∙ sym (stored_content s o x g object) ∙ sym (stored_at s o x (lie_low s x f g e)))
        (and_cases (s.dirty f) (not (eqb (owner s f / 256) o)) d)

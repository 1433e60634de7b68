-- A page that is evicted and a page that is loaded leave what the state keeps. Assumes nothing.
use Rattle.std.proofs.Common.{◌≡◌, ℕ, ◌+◌, ◌<◌, ◌≤◌, true, false, not, eqb, ◌⊎◌, List, [], ◌∷◌, length, get_or, set, Some, None, Option, sym, refl, ap, ◌∙◌, inl, inr, ⊎_elim, arith}
use Rattle.std.specs.List.{AllByRecursion}
use Rattle.std.proofs.lemmas.List.{length-set, length_push, get_or-set_same, get_or-set_other, get_or_past}
use Rattle.std.proofs.ByRecursion.{All-weaker}
use Rattle.std.proofs.lemmas.Bool.{cases_Bool, cases_eq, cases_lt, ne_eqb, eqb-false, both_ways, not-true, and_parts, cond_both}
use Rattle.rules.specs.declared.region.WiredPlace.{WiredPlace}
use Rattle.rules.specs.Lists.{any, without}
use Rattle.rules.specs.State.{State, lie, dirty_in, is_modified}
use Rattle.rules.specs.Refusals.{free, on_frame}
use Rattle.rules.specs.Paging.{owner, evict, load}
use Rattle.rules.specs.Good.{Good, in_use, Apart, RegionFits}
use Rattle.rules.proofs.Lists.{never, all_false, length_without, any_push_old}
use Rattle.rules.proofs.Queues.{has_push_same, has_push_other, apart_push, has_without_same, has_without_other, apart_without}

-- the word of an object page: that in its frame, else that of the backing store
abbrev pub word_of : State → ℕ → Option ℕ → ℕ
word_of s x None = get_or s.store x 0
word_of s x (Some f) = get_or s.words f 0

abbrev pub content : State → ℕ → ℕ
content s x = word_of s x (lie s x)

-- a resident page is one of the 2048
pub lie_low : (s : State) (x f : ℕ) → Good s → lie s x ≡ Some f → x < 2048
lie_low s x f g e = ⊎_elim
    (λ (h : x < 2048). h)
    (λ (h : 2048 ≤ x). let past : lie s x ≡ None = get_or_past s.lies x None (let l = g.lies_long in omega arith) in never (cc))
    (cases_lt x 2048)

pub owner_low : (s : State) (f : ℕ) → Good s → in_use s f ≡ true → owner s f < 2048
owner_low s f g u = lie_low s (owner s f) f g (g.owner_lies f u)

pub used_low : (s : State) (f : ℕ) → Good s → in_use s f ≡ true → f < 256
used_low s f g u = omega (arith, g.queue_low f u, g.queue_few, g.frames_few)

-- frame f is not in use, and is the next to be
pub record Ready (s : State) (f : ℕ) : Type 0 where
  pub frames_few : s.frames ≤ 256
  pub lies_long : length s.lies ≡ 2048
  pub owners_long : length s.owners ≡ 256
  pub words_long : length s.words ≡ 256
  pub store_long : length s.store ≡ 2048
  pub regions_few : length s.regions ≤ 64
  pub regions_fit : AllByRecursion RegionFits s.regions
  pub room : length s.queue < s.frames
  pub low : f ≤ length s.queue
  pub new : in_use s f ≡ false
  pub queue_low : (g : ℕ) → in_use s g ≡ true → g ≤ length s.queue
  pub queue_apart : Apart s.queue
  pub lies_used : (x g : ℕ) → lie s x ≡ Some g → in_use s g ≡ true
  pub lies_owned : (x g : ℕ) → lie s x ≡ Some g → owner s g ≡ x
  pub owner_lies : (g : ℕ) → in_use s g ≡ true → lie s (owner s g) ≡ Some g
  pub dirty_used : (g : ℕ) → s.dirty g ≡ true → in_use s g ≡ true
  pub clean : (x g : ℕ) → lie s x ≡ Some g → s.dirty g ≡ false → get_or s.words g 0 ≡ get_or s.store x 0
  pub wired_few : length s.wired ≤ 8
  pub wired_used : AllByRecursion (λ w. in_use s w.frame ≡ true) s.wired

-- while frames are unused, the next is the one after those in use
pub ready_unused : (s : State) → Good s → length s.queue < s.frames → Ready s (length s.queue)
ready_unused s g room = record {
  frames_few = g.frames_few;
  lies_long = g.lies_long;
  owners_long = g.owners_long;
  words_long = g.words_long;
  store_long = g.store_long;
  regions_few = g.regions_few;
  regions_fit = g.regions_fit;
  room = room;
  low = omega arith;
  new = new;
  queue_low = λ f u. (let h = g.queue_low f u in omega arith);
  queue_apart = g.queue_apart;
  lies_used = g.lies_used;
  lies_owned = g.lies_owned;
  owner_lies = g.owner_lies;
  dirty_used = g.dirty_used;
  clean = g.clean;
  wired_few = g.wired_few;
  wired_used = g.wired_used;
}
  where
    new : in_use s (length s.queue) ≡ false
    new = ⊎_elim
        (λ (u : in_use s (length s.queue) ≡ true). let h = g.queue_low (length s.queue) u in absurd (omega arith))
        (λ (u : in_use s (length s.queue) ≡ false). u)
        (cases_Bool (in_use s (length s.queue)))

-- the page of a frame in use is evicted

module _ (s : State) (f : ℕ) (g : Good s) (used : in_use s f ≡ true) where
  pub lie_evicted : lie (evict s f) (owner s f) ≡ None
  lie_evicted = get_or-set_same s.lies (owner s f) None None (let h = owner_low s f g used in let l = g.lies_long in omega arith)

  pub lie_evict : (x : ℕ) → (x ≡ owner s f → ⊥) → lie (evict s f) x ≡ lie s x
  lie_evict x n = get_or-set_other s.lies (owner s f) x None None n

  pub store_evict : (x : ℕ) → (x ≡ owner s f → ⊥) → get_or (evict s f).store x 0 ≡ get_or s.store x 0
  store_evict x n = cond_both (s.dirty f) (set s.store (owner s f) (get_or s.words f 0)) s.store (λ l. get_or l x 0 ≡ get_or s.store x 0)
      (λ e. get_or-set_other s.store (owner s f) x (get_or s.words f 0) 0 n)
      (λ e. refl)

  -- the evicted page's word is in the backing store
  pub store_evicted : get_or (evict s f).store (owner s f) 0 ≡ get_or s.words f 0
  store_evicted = cond_both (s.dirty f) (set s.store (owner s f) (get_or s.words f 0)) s.store (λ l. get_or l (owner s f) 0 ≡ get_or s.words f 0)
      (λ e. get_or-set_same s.store (owner s f) (get_or s.words f 0) 0 (let h = owner_low s f g used in let l = g.store_long in omega arith))
      (λ e. sym (g.clean (owner s f) f (g.owner_lies f used) e))

  -- a page that is still resident lies in another frame
  pub lies_still : (x h : ℕ) → lie (evict s f) x ≡ Some h → (lie s x ≡ Some h) × (h ≡ f → ⊥) × (x ≡ owner s f → ⊥)
  lies_still x h e = ⊎_elim
      (λ (same : x ≡ owner s f). let gone : lie (evict s f) x ≡ None = ap (lie (evict s f)) same ∙ lie_evicted in never (cc))
      (λ (n : x ≡ owner s f → ⊥).
      let was : lie s x ≡ Some h = sym (lie_evict x n) ∙ e in
      (was, (λ q. n (sym (g.lies_owned x h was) ∙ ap (owner s) q)), n))
      (cases_eq x (owner s f))

  used_still : (h : ℕ) → (h ≡ f → ⊥) → in_use s h ≡ true → in_use (evict s f) h ≡ true
  used_still h n u = has_without_other h f s.queue n ∙ u

  used_before : (h : ℕ) → in_use (evict s f) h ≡ true → (h ≡ f → ⊥) × (in_use s h ≡ true)
  used_before h u =
      let n : h ≡ f → ⊥ = (λ q. both_ways (in_use (evict s f) f) (has_without_same f s.queue g.queue_apart) (ap (in_use (evict s f)) (sym q) ∙ u)) in
      (n, sym (has_without_other h f s.queue n) ∙ u)

  owner_still : (h : ℕ) → in_use (evict s f) h ≡ true → lie (evict s f) (owner s h) ≡ Some h
  owner_still h u =
      let b = used_before h u in
      let was : lie s (owner s h) ≡ Some h = g.owner_lies h b.1 in
      let n : owner s h ≡ owner s f → ⊥ = (λ q. b.0 (
      let here : lie s (owner s f) ≡ Some f = g.owner_lies f used in
      let there : lie s (owner s h) ≡ lie s (owner s f) = ap (lie s) q in
      cc)) in
      lie_evict (owner s h) n ∙ was

  pub dirty_evict : (h : ℕ) → (h ≡ f → ⊥) → (evict s f).dirty h ≡ s.dirty h
  dirty_evict h n = let e = ne_eqb h f n in ⊎_elim
      (λ (d : s.dirty h ≡ true). simp (d, e))
      (λ (d : s.dirty h ≡ false). simp d)
      (cases_Bool (s.dirty h))

  pub ready_evicted : free s.wired f ≡ true → Ready (evict s f) f
  ready_evicted unwired = record {
    frames_few = g.frames_few;
    lies_long = length-set s.lies (owner s f) None ∙ g.lies_long;
    owners_long = g.owners_long;
    words_long = g.words_long;
    store_long = cond_both (s.dirty f) (set s.store (owner s f) (get_or s.words f 0)) s.store (λ l. length l ≡ 2048)
        (λ e. length-set s.store (owner s f) (get_or s.words f 0) ∙ g.store_long)
        (λ e. g.store_long);
    regions_few = g.regions_few;
    regions_fit = g.regions_fit;
    room = (let h = g.queue_few in omega (arith, fewer));
    low = (let h = g.queue_low f used in omega (arith, fewer));
    new = has_without_same f s.queue g.queue_apart;
    queue_low = λ h u. (let k = g.queue_low h (used_before h u).1 in omega (arith, fewer));
    queue_apart = apart_without f s.queue g.queue_apart;
    lies_used = λ x h e. (let b = lies_still x h e in used_still h b.1 (g.lies_used x h b.0));
    lies_owned = λ x h e. g.lies_owned x h (lies_still x h e).0;
    owner_lies = owner_still;
    dirty_used = λ h d. (let b = and_parts (s.dirty h) (not (eqb h f)) d in used_still h (eqb-false h f (not-true (eqb h f) b.1)) (g.dirty_used h b.0));
    clean = λ x h e d. (let b = lies_still x h e in g.clean x h b.0 (sym (dirty_evict h b.1) ∙ d) ∙ sym (store_evict x b.2));
    wired_few = g.wired_few;
    wired_used = wired_still s.wired (all_false (on_frame f) s.wired (not-true (any (on_frame f) s.wired) unwired)) g.wired_used;
  }
    where
      fewer : length (without (eqb f) s.queue) + 1 ≡ length s.queue
      fewer = length_without (eqb f) s.queue used

      wired_still : (ws : List WiredPlace) → AllByRecursion (λ w. on_frame f w ≡ false) ws → AllByRecursion (λ w. in_use s w.frame ≡ true) ws → AllByRecursion (λ w. in_use (evict s f) w.frame ≡ true) ws
      wired_still [] others all = tt
      wired_still (w ∷ ws) others all = (used_still w.frame (eqb-false w.frame f others.0) all.0, wired_still ws others.1 all.1)

  -- no page's word changes

  pub content_evict : (y : ℕ) → content (evict s f) y ≡ content s y
  content_evict y = ⊎_elim
      (λ (same : y ≡ owner s f).
      let now : content (evict s f) (owner s f) ≡ get_or s.words f 0 = ap (word_of (evict s f) (owner s f)) lie_evicted ∙ store_evicted in
      let was : content s (owner s f) ≡ get_or s.words f 0 = ap (word_of s (owner s f)) (g.owner_lies f used) in
      rw same (now ∙ sym was))
      (λ (n : y ≡ owner s f → ⊥). ap (word_of (evict s f) y) (lie_evict y n) ∙ same_word y n (lie s y))
      (cases_eq y (owner s f))
    where
      same_word : (y : ℕ) → (y ≡ owner s f → ⊥) → (o : Option ℕ) → word_of (evict s f) y o ≡ word_of s y o
      same_word y n None = store_evict y n
      same_word y n (Some h) = refl

  pub modified_evicted : is_modified (evict s f) (owner s f) ≡ false
  modified_evicted = ap (dirty_in (evict s f).dirty) lie_evicted

  pub modified_evict : (y : ℕ) → (y ≡ owner s f → ⊥) → is_modified (evict s f) y ≡ is_modified s y
  modified_evict y n = ap (dirty_in (evict s f).dirty) (lie_evict y n) ∙ same_mark (lie s y) refl
    where
      same_mark : (o : Option ℕ) → lie s y ≡ o → dirty_in (evict s f).dirty o ≡ dirty_in s.dirty o
      same_mark None e = refl
      same_mark (Some h) e = dirty_evict h (λ q. n (sym (g.lies_owned y h e) ∙ ap (owner s) q))

-- a page is loaded into the frame that is ready

module _ (s : State) (x f : ℕ) (r : Ready s f) (low : x < 2048) (absent : lie s x ≡ None) where
  frame_low_is : f < 256
  frame_low_is = omega (arith, r.low, r.room, r.frames_few)

  pub lie_loaded : lie (load s x f) x ≡ Some f
  lie_loaded = get_or-set_same s.lies x (Some f) None (let l = r.lies_long in omega arith)

  pub lie_load : (y : ℕ) → (y ≡ x → ⊥) → lie (load s x f) y ≡ lie s y
  lie_load y n = get_or-set_other s.lies x y (Some f) None n

  pub word_loaded : get_or (load s x f).words f 0 ≡ get_or s.store x 0
  word_loaded = get_or-set_same s.words f (get_or s.store x 0) 0 (let l = r.words_long in let h = frame_low_is in omega arith)

  pub word_load : (h : ℕ) → (h ≡ f → ⊥) → get_or (load s x f).words h 0 ≡ get_or s.words h 0
  word_load h n = get_or-set_other s.words f h (get_or s.store x 0) 0 n

  other_frame : (h : ℕ) → in_use s h ≡ true → h ≡ f → ⊥
  other_frame h u q = both_ways (in_use s f) r.new (ap (in_use s) (sym q) ∙ u)

  -- what is resident after the load is the page loaded, or was so before in another frame
  pub lies_load : (y h : ℕ) → lie (load s x f) y ≡ Some h → ((y ≡ x) × (h ≡ f)) ⊎ ((lie s y ≡ Some h) × (h ≡ f → ⊥) × (y ≡ x → ⊥))
  lies_load y h e = ⊎_elim
      (λ (same : y ≡ x).
      let here : lie (load s x f) y ≡ Some f = ap (lie (load s x f)) same ∙ lie_loaded in
      let frames : h ≡ f = cc in
      inl (same, frames))
      (λ (n : y ≡ x → ⊥).
      let was : lie s y ≡ Some h = sym (lie_load y n) ∙ e in
      inr (was, other_frame h (r.lies_used y h was), n))
      (cases_eq y x)

  used_cases : (h : ℕ) → in_use (load s x f) h ≡ true → (h ≡ f) ⊎ ((in_use s h ≡ true) × (h ≡ f → ⊥))
  used_cases h u = ⊎_elim
      (λ (same : h ≡ f). inl same)
      (λ (n : h ≡ f → ⊥). inr (sym (has_push_other h f s.queue n) ∙ u, n))
      (cases_eq h f)

  used_old : (h : ℕ) → in_use s h ≡ true → in_use (load s x f) h ≡ true
  used_old h u = any_push_old (eqb h) s.queue f u

  owner_loaded : owner (load s x f) f ≡ x
  owner_loaded = get_or-set_same s.owners f x 0 (let l = r.owners_long in let h = frame_low_is in omega arith)

  owner_load : (h : ℕ) → (h ≡ f → ⊥) → owner (load s x f) h ≡ owner s h
  owner_load h n = get_or-set_other s.owners f h x 0 n

  used_loaded : (h : ℕ) → h ≡ f → in_use (load s x f) h ≡ true
  used_loaded h q = ap (in_use (load s x f)) q ∙ has_push_same f s.queue

  owner_lies_load : (h : ℕ) → in_use (load s x f) h ≡ true → lie (load s x f) (owner (load s x f) h) ≡ Some h
  owner_lies_load h u = ⊎_elim
      (λ (q : h ≡ f). ap (λ k. lie (load s x f) (owner (load s x f) k)) q ∙ ap (lie (load s x f)) owner_loaded ∙ lie_loaded ∙ ap Some (sym q))
      (λ (b : (in_use s h ≡ true) × (h ≡ f → ⊥)).
      let was : lie s (owner s h) ≡ Some h = r.owner_lies h b.0 in
      let n : owner s h ≡ x → ⊥ = (λ q. let there : lie s (owner s h) ≡ lie s x = ap (lie s) q in never (cc)) in
      ap (lie (load s x f)) (owner_load h b.1) ∙ lie_load (owner s h) n ∙ was)
      (used_cases h u)

  clean_load : (y h : ℕ) → lie (load s x f) y ≡ Some h → s.dirty h ≡ false → get_or (load s x f).words h 0 ≡ get_or s.store y 0
  clean_load y h e d = ⊎_elim
      (λ (b : (y ≡ x) × (h ≡ f)). ap (λ k. get_or (load s x f).words k 0) b.1 ∙ word_loaded ∙ ap (λ k. get_or s.store k 0) (sym b.0))
      (λ (b : (lie s y ≡ Some h) × (h ≡ f → ⊥) × (y ≡ x → ⊥)). word_load h b.1 ∙ r.clean y h b.0 d)
      (lies_load y h e)

  pub good_loaded : Good (load s x f)
  good_loaded = record {
    frames_few = r.frames_few;
    lies_long = length-set s.lies x (Some f) ∙ r.lies_long;
    owners_long = length-set s.owners f x ∙ r.owners_long;
    words_long = length-set s.words f (get_or s.store x 0) ∙ r.words_long;
    store_long = r.store_long;
    regions_few = r.regions_few;
    regions_fit = r.regions_fit;
    queue_few = (let h = r.room in omega (arith, length_push s.queue f));
    queue_low = λ h u. ⊎_elim
        (λ (q : h ≡ f). (let k = r.low in omega (arith, length_push s.queue f)))
        (λ (b : (in_use s h ≡ true) × (h ≡ f → ⊥)). (let k = r.queue_low h b.0 in omega (arith, length_push s.queue f)))
        (used_cases h u);
    queue_apart = apart_push f s.queue r.new r.queue_apart;
    lies_used = λ y h e. ⊎_elim
        (λ (b : (y ≡ x) × (h ≡ f)). used_loaded h b.1)
        (λ (b : (lie s y ≡ Some h) × (h ≡ f → ⊥) × (y ≡ x → ⊥)). used_old h (r.lies_used y h b.0))
        (lies_load y h e);
    lies_owned = λ y h e. ⊎_elim
        (λ (b : (y ≡ x) × (h ≡ f)). ap (owner (load s x f)) b.1 ∙ owner_loaded ∙ sym b.0)
        (λ (b : (lie s y ≡ Some h) × (h ≡ f → ⊥) × (y ≡ x → ⊥)). owner_load h b.1 ∙ r.lies_owned y h b.0)
        (lies_load y h e);
    owner_lies = owner_lies_load;
    dirty_used = λ h d. used_old h (r.dirty_used h d);
    clean = clean_load;
    wired_few = r.wired_few;
    wired_used = All-weaker (λ w. in_use s w.frame ≡ true) (λ w. in_use (load s x f) w.frame ≡ true) (λ w u. used_old w.frame u) s.wired r.wired_used;
  }

  -- no page's word changes, and none becomes modified

  pub content_load : (y : ℕ) → content (load s x f) y ≡ content s y
  content_load y = ⊎_elim
      (λ (same : y ≡ x).
      let now : content (load s x f) x ≡ get_or s.store x 0 = ap (word_of (load s x f) x) lie_loaded ∙ word_loaded in
      let was : content s x ≡ get_or s.store x 0 = ap (word_of s x) absent in
      rw same (now ∙ sym was))
      (λ (n : y ≡ x → ⊥). ap (word_of (load s x f) y) (lie_load y n) ∙ same_word y (lie s y) refl)
      (cases_eq y x)
    where
      same_word : (y : ℕ) → (o : Option ℕ) → lie s y ≡ o → word_of (load s x f) y o ≡ word_of s y o
      same_word y None e = refl
      same_word y (Some h) e = word_load h (other_frame h (r.lies_used y h e))

  pub modified_load : (y : ℕ) → is_modified (load s x f) y ≡ is_modified s y
  modified_load y = ⊎_elim
      (λ (same : y ≡ x).
      let now : is_modified (load s x f) x ≡ s.dirty f = ap (dirty_in s.dirty) lie_loaded in
      let was : is_modified s x ≡ false = ap (dirty_in s.dirty) absent in
      rw same (now ∙ unmodified ∙ sym was))
      (λ (n : y ≡ x → ⊥). ap (dirty_in s.dirty) (lie_load y n))
      (cases_eq y x)
    where
      unmodified : s.dirty f ≡ false
      unmodified = ⊎_elim
          (λ (d : s.dirty f ≡ true). absurd (both_ways (in_use s f) r.new (r.dirty_used f d)))
          (λ (d : s.dirty f ≡ false). d)
          (cases_Bool (s.dirty f))

-- The law holds of every history of a memory. Assumes nothing.
use Rattle.std.proofs.Common.{◌≡◌, ℕ, ◌+◌, ◌/◌, ◌<◌, ◌≤◌, Bool, true, false, cond, eqb, List, [], ◌∷◌, get_or, Some, None, Ok, Err, Option, sym, refl, ap, ◌∙◌, subst, inl, inr, ⊎_elim, arith}
use Rattle.std.proofs.lemmas.List.FromFn.{get_or-range_with_len}
use Rattle.std.proofs.lemmas.Bool.{cases_Bool, both_ways, eqb-true, eq-eqb, and_parts, and_from}
use Rattle.refusal.specs.declared.memory.MemoryRefusal.{MemoryRefusal}
use Rattle.calls.specs.declared.Call.{Call}
use Rattle.calls.specs.declared.Call.TheVariants.{Map, Unmap, Protect, Read, Write, Wire, Unwire, Sync}
use Rattle.rules.specs.declared.answer.Kind.{Kind}
use Rattle.rules.specs.declared.answer.Kind.TheVariants.{Hit, Soft, Hard}
use Rattle.rules.specs.declared.answer.Reading.{Reading}
use Rattle.rules.specs.declared.answer.Answer.TheVariants.{Read as ReadAnswer}
use Rattle.rules.specs.declared.counts.Counts.{Counts}
use Rattle.rules.specs.declared.region.WiredPlace.{WiredPlace}
use Rattle.rules.specs.Lists.{any}
use Rattle.rules.specs.State.{State, lie, is_modified, starting_words, fresh}
use Rattle.rules.specs.Refusals.{is_place, call_refusal, refusal}
use Rattle.rules.specs.Paging.{resident, word_in}
use Rattle.rules.specs.Rules.{Reply, kind_of, page_at, reading_of, answer, regions_after, moved, with_counts, one, is_kind, of_kind, evicted_in, is_limit, added, counted, reply_by, reply, moved_by, after}
use Rattle.rules.specs.Good.{Good}
use Rattle.rules.specs.History.{Moment, shown, May, Passed, begun, called}
use Rattle.rules.specs.Laws.{accepted, Always, regions_of, StandsFor, Writes, LastWord, never as never_written, latest, earlier, Unsaved, written, still, WiredSince, wires, stays, ReadsLast, ReadsSomething, SyncStores, is_access, accesses, IsHit, WiredHits, Lawful}
use Rattle.rules.proofs.Lists.{never, any_push, any_push_old, any_without}
use Rattle.rules.proofs.Loads.{content, word_of}
use Rattle.rules.proofs.GoodKept.{no_lie, good_fresh, good_with_counts, stored_at, stored_content}
use Rattle.rules.proofs.Accepted.{Reaches, not_limited, read_passed, write_passed, wire_passed, reached, good_moved}
use Rattle.rules.proofs.Words.{StandsIn, stands_at, reaches_stands, Written, Word, put, left, Mark, marks, cleared, kept, Moves, content_same, moves_like, moves}

-- the regions and wired places after an accepted call

regions_moved : (s : State) (c : Call) → Good s → call_refusal s c ≡ None → (moved s c).regions ≡ regions_after s.regions c
regions_moved s (Map a p count object offset q) g e = refl
regions_moved s (Unmap a p) g e = refl
regions_moved s (Protect a p q) g e = refl
regions_moved s (Read a p) g e = (reached s a p g (read_passed s a p g e)).regions
regions_moved s (Write a p w) g e = let b = reached s a p g (write_passed s a p w g e) in rw b.lies b.regions
regions_moved s (Wire a p) g e = let b = reached s a p g (wire_passed s a p g e).0 in rw b.lies b.regions
regions_moved s (Unwire a p) g e = refl
regions_moved s (Sync o) g e = refl

place_true : (a p : ℕ) (w : WiredPlace) → is_place a p w ≡ true → (w.space ≡ a) × (w.page ≡ p)
place_true a p w e =
    let parts = and_parts (eqb w.space a) (eqb w.page p) e in
    (eqb-true w.space a parts.0, eqb-true w.page p parts.1)

other_place : (a p b q : ℕ) → (Unwire b q ≡ Unwire a p → ⊥) → (w : WiredPlace) → is_place b q w ≡ true → is_place a p w ≡ false
other_place a p b q n w e = ⊎_elim
    (λ (t : is_place a p w ≡ true).
    let here = place_true a p w t in
    let there = place_true b q w e in
    let spaces : b ≡ a = sym there.0 ∙ here.0 in
    let pages : q ≡ p = sym there.1 ∙ here.1 in
    absurd (n (cc)))
    (λ (t : is_place a p w ≡ false). t)
    (cases_Bool (is_place a p w))

wired_still : (s : State) (c : Call) (a p : ℕ) → Good s → call_refusal s c ≡ None → (c ≡ Unwire a p → ⊥) → any (is_place a p) s.wired ≡ true → any (is_place a p) (moved s c).wired ≡ true
wired_still s (Map b q count object offset m) a p g e n h = h
wired_still s (Unmap b q) a p g e n h = h
wired_still s (Protect b q m) a p g e n h = h
wired_still s (Read b q) a p g e n h = ap (any (is_place a p)) (reached s b q g (read_passed s b q g e)).wired ∙ h
wired_still s (Write b q w) a p g e n h = let r = reached s b q g (write_passed s b q w g e) in rw r.lies (ap (any (is_place a p)) r.wired ∙ h)
wired_still s (Wire b q) a p g e n h =
    let r = reached s b q g (wire_passed s b q g e).0 in
    rw r.lies (any_push_old (is_place a p) (resident s (page_at s b q)).wired (record { space = b; page = q; frame = r.frame }) (ap (any (is_place a p)) r.wired ∙ h))
wired_still s (Unwire b q) a p g e n h = any_without (is_place b q) (is_place a p) (other_place a p b q n) s.wired ∙ h
wired_still s (Sync o) a p g e n h = h

wired_new : (s : State) (a p : ℕ) → Good s → call_refusal s (Wire a p) ≡ None → any (is_place a p) (moved s (Wire a p)).wired ≡ true
wired_new s a p g e =
    let r = reached s a p g (wire_passed s a p g e).0 in
    rw r.lies (any_push (is_place a p) (resident s (page_at s a p)).wired (record { space = a; page = p; frame = r.frame }) (and_from (eqb a a) (eqb p p) (eq-eqb a a refl) (eq-eqb p p refl)))

-- each accepted read or write is of one kind

kind_sum : (k : Kind) → one (is_kind Hit k) + one (is_kind Soft k) + one (is_kind Hard k) ≡ 1
kind_sum Hit = refl
kind_sum Soft = refl
kind_sum Hard = refl

answer_sum : (s : State) (c : Call) (hit : Bool) → of_kind Hit (Ok (answer s c hit)) + of_kind Soft (Ok (answer s c hit)) + of_kind Hard (Ok (answer s c hit)) ≡ cond (is_access c) 1 0
answer_sum s (Map a p count object offset q) hit = refl
answer_sum s (Unmap a p) hit = refl
answer_sum s (Protect a p q) hit = refl
answer_sum s (Read a p) hit = kind_sum (kind_of hit (lie s (page_at s a p)))
answer_sum s (Write a p w) hit = kind_sum (kind_of hit (lie s (page_at s a p)))
answer_sum s (Wire a p) hit = refl
answer_sum s (Unwire a p) hit = refl
answer_sum s (Sync o) hit = refl

-- what a history tells of the state that it led to
pub record Follows (h : List Moment) (s : State) : Type 0 where
  pub good : Good s
  pub regions : regions_of h ≡ s.regions
  pub words : (x : ℕ) → x < 2048 → LastWord x h (content s x)
  pub unsaved : (x : ℕ) → is_modified s x ≡ true → Unsaved x h
  pub modified : (x : ℕ) → Unsaved x h → is_modified s x ≡ true
  pub sums : s.counts.hits + s.counts.soft + s.counts.hard ≡ accesses h
  pub wired : (a p : ℕ) → WiredSince a p h → any (is_place a p) s.wired ≡ true

word_at : {x : ℕ} {h : List Moment} {v w : ℕ} → w ≡ v → LastWord x h v → LastWord x h w
word_at {x} {h} e l = subst (λ u. LastWord x h u) (sym e) l

-- a new memory
fresh_follows : (n : ℕ) → n ≤ 256 → Follows [] (fresh n)
unfolding regions_of accesses starting_words
fresh_follows n few = record {
  good = good_fresh n few;
  regions = refl;
  words = λ x low. word_at (ap (word_of (fresh n) x) (no_lie n x) ∙ get_or-range_with_len 0 2048 x 0 low ∙ zeroth x) never_written;
  unsaved = λ x e. (let z = no_lie n x in let m : is_modified (fresh n) x ≡ false = rw z refl in never (cc));
  modified = λ x u. elim u [ ];
  sums = refl;
  wired = λ a p k. elim k [ ];
}
  where
    zeroth : (x : ℕ) → 0 + x ≡ x
    zeroth x = omega arith

-- a refused call

module _ (h : List Moment) (s : State) (w : Follows h s) (c : Call) (e : MemoryRefusal) where
  no_access : (b : Bool) → ◌≡◌ {A = ℕ} (cond b (cond false 1 0) 0) 0
  no_access true = refl
  no_access false = refl

  refused_sums : (b : Bool) → let n : Counts = cond b s.counts (added s.counts (Err e)) in n.hits + n.soft + n.hard ≡ cond (is_access c) (cond false 1 0) 0 + accesses h
  refused_sums true = omega (arith, w.sums, no_access (is_access c))
  refused_sums false = omega (arith, w.sums, no_access (is_access c))

  abbrev turned : State
  turned = with_counts s (counted s.counts (Err e))

  abbrev refused_moment : Moment
  refused_moment = record { call = c; reply = Err e; after = shown turned }

  refused_modified : (x : ℕ) → Unsaved x (refused_moment ∷ h) → is_modified s x ≡ true
  refused_modified x (written k) = let z = k.passed in never (cc)
  refused_modified x (still ne ns u) = w.modified x u

  refused_wired : (a p : ℕ) → WiredSince a p (refused_moment ∷ h) → any (is_place a p) s.wired ≡ true
  refused_wired a p (wires asked passed) = never (cc)
  refused_wired a p (stays n k) = w.wired a p k

  follows_refused : Follows (refused_moment ∷ h) turned
  unfolding regions_of accesses
  follows_refused = record {
    good = good_with_counts s (counted s.counts (Err e)) w.good;
    regions = w.regions;
    words = λ x low. word_at (content_same s turned x refl refl refl) (earlier (λ v k. (let z = k.passed in never (cc))) (w.words x low));
    unsaved = λ x m. still (λ k. k) (λ k. (let z = k.1 in never (cc))) (w.unsaved x m);
    modified = refused_modified;
    sums = refused_sums (is_limit (Err e));
    wired = refused_wired;
  }

-- an accepted call

module _ (h : List Moment) (s : State) (w : Follows h s) (c : Call) (hit : Bool) (passed : call_refusal s c ≡ None) where
  abbrev next : State
  next = with_counts (moved s c) (added s.counts (Ok (answer s c hit)))

  abbrev next_moment : Moment
  next_moment = record { call = c; reply = Ok (answer s c hit); after = shown next }

  to_history : (x v : ℕ) → Written s c x v → Writes next_moment h x v
  to_history x v k = record { space = k.space; page = k.page; asked = k.asked; passed = refl; to = subst (λ rs. StandsIn rs k.space k.page x) (sym w.regions) k.to }

  from_history : (x v : ℕ) → Writes next_moment h x v → Written s c x v
  from_history x v k = record { space = k.space; page = k.page; asked = k.asked; to = subst (λ rs. StandsIn rs k.space k.page x) w.regions k.to }

  next_moves : Moves s next c (evicted_in (Ok (answer s c hit)))
  next_moves = moves_like s (moved s c) next c (evicted_in (Ok (answer s c hit))) (moves s c hit w.good passed) refl refl refl refl

  next_word : (x : ℕ) → x < 2048 → Word s next c x → LastWord x (next_moment ∷ h) (content next x)
  next_word x low (put v k e) = word_at e (latest (to_history x v k))
  next_word x low (left n e) = word_at e (earlier (λ v k. n v (from_history x v k)) (w.words x low))

  next_unsaved : (x : ℕ) → is_modified next x ≡ true → Mark s next c (evicted_in (Ok (answer s c hit))) x → Unsaved x (next_moment ∷ h)
  next_unsaved x m (marks v k e) = written (to_history x v k)
  next_unsaved x m (cleared n why e) = absurd (both_ways (is_modified next x) e m)
  next_unsaved x m (kept n ne ns e) = still ne (λ k. ns k.0) (w.unsaved x (sym e ∙ m))

  next_modified : (x : ℕ) → Mark s next c (evicted_in (Ok (answer s c hit))) x → Unsaved x (next_moment ∷ h) → is_modified next x ≡ true
  next_modified x (marks v k e) u = e
  next_modified x (cleared n why e) (written {w = v} k) = absurd (n v (from_history x v k))
  next_modified x (cleared n (inl out) e) (still ne ns u) = absurd (ne out)
  next_modified x (cleared n (inr sync) e) (still ne ns u) = absurd (ns (sync, refl))
  next_modified x (kept n ne ns e) (written {w = v} k) = absurd (n v (from_history x v k))
  next_modified x (kept n ne ns e) (still nf nt u) = e ∙ w.modified x u

  next_wired : (a p : ℕ) → WiredSince a p (next_moment ∷ h) → any (is_place a p) (moved s c).wired ≡ true
  next_wired a p (wires asked ok) = subst (λ d. call_refusal s d ≡ None → any (is_place a p) (moved s d).wired ≡ true) (sym asked) (wired_new s a p w.good) passed
  next_wired a p (stays n k) = wired_still s c a p w.good passed (λ asked. n asked refl) (w.wired a p k)

  follows_next : Follows (next_moment ∷ h) next
  unfolding regions_of accesses
  follows_next = record {
    good = good_with_counts (moved s c) (added s.counts (Ok (answer s c hit))) (good_moved s c w.good passed);
    regions = ap (λ rs. regions_after rs c) w.regions ∙ sym (regions_moved s c w.good passed);
    words = λ x low. next_word x low (next_moves.word x);
    unsaved = λ x m. next_unsaved x m (next_moves.mark x);
    modified = λ x u. next_modified x (next_moves.mark x) u;
    sums = omega (arith, w.sums, answer_sum s c hit);
    wired = next_wired;
  }

-- one call, refused or accepted
follows_after : (h : List Moment) (s : State) → Follows h s → (c : Call) (hit : Bool) → Follows (record { call = c; reply = reply s c hit; after = shown (after s c hit) } ∷ h) (after s c hit)
follows_after h s w c hit = by (refusal s c) refl
  where
    by : (o : Option MemoryRefusal) → refusal s c ≡ o →
        let t : State = with_counts (moved_by s c o) (counted s.counts (reply_by s c hit o)) in
        Follows (record { call = c; reply = reply_by s c hit o; after = shown t } ∷ h) t
    by None e = follows_next h s w c hit (not_limited s c e)
    by (Some e) q = follows_refused h s w c e

-- the law of one call

module _ (h : List Moment) (s : State) (w : Follows h s) (hit : Bool) where
  standing : (a p : ℕ) → Reaches s a p → StandsFor h a p (page_at s a p)
  standing a p r = subst (λ rs. StandsIn rs a p (page_at s a p)) (sym w.regions) (reaches_stands s a p r)

  stood : (a p x : ℕ) → StandsFor h a p x → page_at s a p ≡ x
  stood a p x k = stands_at s a p x (subst (λ rs. StandsIn rs a p x) w.regions k)

  abbrev Something : ℕ → ℕ → Reply → Type 0
  Something a p r = accepted r ≡ true → ((x : ℕ) × StandsFor h a p x) × ((q : Reading) × (r ≡ Ok (ReadAnswer q)))

  reads_something : (a p : ℕ) → Something a p (reply s (Read a p) hit)
  reads_something a p = by (refusal s (Read a p)) refl
    where
      by : (o : Option MemoryRefusal) → refusal s (Read a p) ≡ o → Something a p (reply_by s (Read a p) hit o)
      by None e ok = ((page_at s a p, standing a p (read_passed s a p w.good (not_limited s (Read a p) e))), (reading_of s (page_at s a p) hit, refl))
      by (Some r) e ok = never (cc)

  -- the word of an accepted read is that of its page
  read_word : (a p : ℕ) → Reaches s a p → (reading_of s (page_at s a p) hit).word ≡ content s (page_at s a p)
  read_word a p r =
      let y = page_at s a p in
      let b = reached s a p w.good r in
      ap (word_in (resident s y)) b.lies ∙ sym (ap (word_of (resident s y) y) b.lies) ∙ b.words y

  reads_last : (a p x : ℕ) (q : Reading) → reply s (Read a p) hit ≡ Ok (ReadAnswer q) → StandsFor h a p x → LastWord x h q.word
  reads_last a p x q is k = by (refusal s (Read a p)) refl is
    where
      by : (o : Option MemoryRefusal) → refusal s (Read a p) ≡ o → reply_by s (Read a p) hit o ≡ Ok (ReadAnswer q) → LastWord x h q.word
      by (Some r) e is = never (cc)
      by None e is =
          let r = read_passed s a p w.good (not_limited s (Read a p) e) in
          let same : reading_of s (page_at s a p) hit ≡ q = cc in
          let page : page_at s a p ≡ x = stood a p x k in
          let word : q.word ≡ content s x = ap (λ z. z.word) (sym same) ∙ read_word a p r ∙ ap (content s) page in
          word_at word (w.words x (let l = r.low in omega arith))

  sync_stores : (o x : ℕ) → accepted (reply s (Sync o) hit) ≡ true → x < 2048 → x / 256 ≡ o → LastWord x h (get_or (after s (Sync o) hit).store x 0)
  sync_stores o x ok low object = by (refusal s (Sync o)) ok
    where
      by : (r : Option MemoryRefusal) → accepted (reply_by s (Sync o) hit r) ≡ true → LastWord x h (get_or (moved_by s (Sync o) r).store x 0)
      by None ok = word_at (stored_at s o x low ∙ stored_content s o x w.good object) (w.words x low)
      by (Some r) ok = never (cc)

  reads_hit : (a p : ℕ) → WiredSince a p h → May s (Read a p) hit → accepted (reply s (Read a p) hit) ≡ true → IsHit (reply s (Read a p) hit)
  reads_hit a p k may ok = by (refusal s (Read a p)) refl ok
    where
      by : (r : Option MemoryRefusal) → refusal s (Read a p) ≡ r → accepted (reply_by s (Read a p) hit r) ≡ true → IsHit (reply_by s (Read a p) hit r)
      by None e ok = ap (λ b. kind_of b (lie s (page_at s a p))) (may.holds e (w.wired a p k))
      by (Some r) e ok = never (cc)

  writes_hit : (a p v : ℕ) → WiredSince a p h → May s (Write a p v) hit → accepted (reply s (Write a p v) hit) ≡ true → IsHit (reply s (Write a p v) hit)
  writes_hit a p v k may ok = by (refusal s (Write a p v)) refl ok
    where
      by : (r : Option MemoryRefusal) → refusal s (Write a p v) ≡ r → accepted (reply_by s (Write a p v) hit r) ≡ true → IsHit (reply_by s (Write a p v) hit r)
      by None e ok = ap (λ b. kind_of b (lie s (page_at s a p))) (may.holds e (w.wired a p k))
      by (Some r) e ok = never (cc)

-- the law of the latest call, with its history before it
module _ (h : List Moment) (s : State) (w : Follows h s) (c : Call) (hit : Bool) (may : May s c hit) where
  abbrev latest_moment : Moment
  latest_moment = record { call = c; reply = reply s c hit; after = shown (after s c hit) }

  call_something : ReadsSomething latest_moment h
  call_something a p e = subst (λ d. Something h s w hit a p (reply s d hit)) (sym e) (reads_something h s w hit a p)

  call_reads : ReadsLast latest_moment h
  call_reads a p x q e = subst (λ d. reply s d hit ≡ Ok (ReadAnswer q) → StandsFor h a p x → LastWord x h q.word) (sym e) (reads_last h s w hit a p x q)

  call_syncs : SyncStores latest_moment h
  call_syncs o x k low object = subst (λ d. accepted (reply s d hit) ≡ true → LastWord x h (get_or (after s d hit).store x 0)) (sym k.0) (λ ok. sync_stores h s w hit o x ok low object) k.1

  call_wired : WiredHits latest_moment h
  call_wired = record {
    reads = λ a p k e. subst (λ d. May s d hit → accepted (reply s d hit) ≡ true → IsHit (reply s d hit)) (sym e) (reads_hit h s w hit a p k) may;
    writes = λ a p v k e. subst (λ d. May s d hit → accepted (reply s d hit) ≡ true → IsHit (reply s d hit)) (sym e) (writes_hit h s w hit a p v k) may;
  }

  lawful_more : Lawful h → Lawful (latest_moment ∷ h)
  unfolding Always
  lawful_more l =
      let now = follows_after h s w c hit in
      record {
        something = (call_something, l.something);
        reads = (call_reads, l.reads);
        syncs = (call_syncs, l.syncs);
        modified = (record { unsaved = now.unsaved; modified = now.modified }, l.modified);
        sums = (now.sums, l.sums);
        wired = (call_wired, l.wired);
      }

-- every history

lawful_none : Lawful []
unfolding Always
lawful_none = record { something = tt; reads = tt; syncs = tt; modified = tt; sums = tt; wired = tt }

pub follows : (n : ℕ) → n ≤ 256 → {h : List Moment} {s : State} → Passed n h s → Follows h s × Lawful h
follows n few begun = (fresh_follows n few, lawful_none)
follows n few (called {h} {s} x c hit may) =
    let before = follows n few x in
    (follows_after h s before.0 c hit, lawful_more h s before.0 c hit may before.1)

pub lawful : (n : ℕ) → n ≤ 256 → {h : List Moment} {s : State} → Passed n h s → Lawful h
lawful n few x = (follows n few x).1

-- Two memories of one number of frames that are given the same calls agree after each, but for hit and soft fault. Assumes nothing.
use Rattle.std.proofs.Common.{◌≡◌, ℕ, ◌+◌, Bool, true, false, cond, not, eqb, leb, List, map, length, is_some, Some, None, Ok, Err, Option, sym, refl, ap, ◌∙◌, subst, arith}
use mathlib.Core.Path.{fun_ext}
use Rattle.std.specs.List.{range_with_len}
use Rattle.refusal.specs.declared.memory.MemoryRefusal.{MemoryRefusal}
use Rattle.refusal.specs.declared.memory.MemoryRefusal.TheVariants.{CallLimit, ReadOnly, Wired as WiredRefusal, WiredFull}
use Rattle.calls.specs.declared.Call.{Call}
use Rattle.calls.specs.declared.Call.TheVariants.{Map, Unmap, Protect, Read, Write, Wire, Unwire, Sync}
use Rattle.rules.specs.declared.answer.Kind.{Kind}
use Rattle.rules.specs.declared.answer.Kind.TheVariants.{Hit, Soft, Hard}
use Rattle.rules.specs.declared.answer.Answer.TheVariants.{Done, Read as ReadAnswer, Wrote, Wired, Synced}
use Rattle.rules.specs.declared.counts.Counts.{Counts}
use Rattle.rules.specs.declared.region.Region.{Region}
use Rattle.rules.specs.Lists.{any}
use Rattle.rules.specs.State.{State, lie, is_modified, page_in}
use Rattle.rules.specs.Refusals.{refuse, is_place, wants_frame, read_refusal, write_refusal, wire_refusal, region_refusal, call_refusal, refusal}
use Rattle.rules.specs.Paging.{load, unused, victim, replaced, replaced_page, resident_by, resident, evicted_by, written_to, word_in, stored_word, stored_words, synced}
use Rattle.rules.specs.Rules.{Reply, kind_of, page_at, answer, wired_to, moved, with_counts, is_kind, one, of_kind, loads_in, evicted_in, evictions, stored_in, refused_in, is_limit, added, counted, reply_by, reply, moved_by, after}
use Rattle.rules.specs.History.{Moment, shown, May, Passed, begun, called}
use Rattle.rules.specs.Laws.{blur_kind, blur, CountsAgree, MomentsAgree, Agree, at_start, at_call, calls_of}
use Rattle.rules.proofs.Lists.{never}

-- a call depends on the counts only by the limit of calls

module _ (s : State) (n : Counts) where
  wants_same : (o : Option ℕ) → wants_frame (with_counts s n) o ≡ wants_frame s o
  wants_same None = refl
  wants_same (Some f) = refl

  read_same : (p : ℕ) (o : Option Region) → read_refusal (with_counts s n) p o ≡ read_refusal s p o
  read_same p None = refl
  read_same p (Some r) = wants_same (lie s (page_in r p))

  write_same : (p : ℕ) (o : Option Region) → write_refusal (with_counts s n) p o ≡ write_refusal s p o
  write_same p None = refl
  write_same p (Some r) = ap (refuse (eqb r.protection 1) ReadOnly) (wants_same (lie s (page_in r p)))

  wire_same : (a p : ℕ) (o : Option Region) → wire_refusal (with_counts s n) a p o ≡ wire_refusal s a p o
  wire_same a p None = refl
  wire_same a p (Some r) = ap (λ e. refuse (any (is_place a p) s.wired) WiredRefusal (refuse (leb 8 (length s.wired)) WiredFull e)) (wants_same (lie s (page_in r p)))

  region_same : (o : Option Region) → region_refusal (with_counts s n) o ≡ region_refusal s o
  region_same None = refl
  region_same (Some r) = refl

  refusal_same : (c : Call) → call_refusal (with_counts s n) c ≡ call_refusal s c
  refusal_same (Map a p count object offset q) = refl
  refusal_same (Unmap a p) = simp region_same
  refusal_same (Protect a p q) = simp region_same
  refusal_same (Read a p) = simp read_same
  refusal_same (Write a p w) = simp write_same
  refusal_same (Wire a p) = simp wire_same
  refusal_same (Unwire a p) = refl
  refusal_same (Sync o) = refl

  brought_same : (x : ℕ) (b : Bool) (v : Option ℕ) → cond b (load (with_counts s n) x (length s.queue)) (replaced (with_counts s n) x v) ≡ with_counts (cond b (load s x (length s.queue)) (replaced s x v)) n
  brought_same x true v = refl
  brought_same x false None = refl
  brought_same x false (Some f) = refl

  out_same : (b : Bool) (v : Option ℕ) → cond b None (replaced_page (with_counts s n) v) ≡ cond b None (replaced_page s v)
  out_same true v = refl
  out_same false None = refl
  out_same false (Some f) = refl

  evicted_same : (o : Option ℕ) → evicted_by (with_counts s n) o ≡ evicted_by s o
  evicted_same None = out_same (unused s) (victim s)
  evicted_same (Some f) = refl

  resident_by_same : (x : ℕ) (o : Option ℕ) → resident_by (with_counts s n) x o ≡ with_counts (resident_by s x o) n
  resident_by_same x None = brought_same x (unused s) (victim s)
  resident_by_same x (Some f) = refl

  resident_same : (x : ℕ) → resident (with_counts s n) x ≡ with_counts (resident s x) n
  resident_same x = resident_by_same x (lie s x)

  word_same : (o : Option ℕ) → word_in (with_counts s n) o ≡ word_in s o
  word_same None = refl
  word_same (Some f) = refl

  written_same : (w : ℕ) (o : Option ℕ) → written_to (with_counts s n) w o ≡ with_counts (written_to s w o) n
  written_same w None = refl
  written_same w (Some f) = refl

  wired_same : (a p : ℕ) (o : Option ℕ) → wired_to (with_counts s n) a p o ≡ with_counts (wired_to s a p o) n
  wired_same a p None = refl
  wired_same a p (Some f) = refl

  stored_same : (o x : ℕ) → stored_word (with_counts s n) o x ≡ stored_word s o x
  unfolding stored_word
  stored_same o x = simp word_same

  synced_same : (o : ℕ) → stored_words (with_counts s n) o ≡ stored_words s o
  unfolding stored_words
  synced_same o = ap (λ f. map f (range_with_len 0 2048)) (fun_ext (stored_same o))

moved_same : (s : State) (n : Counts) (c : Call) → moved (with_counts s n) c ≡ with_counts (moved s c) n
moved_same s n (Map a p count object offset q) = refl
moved_same s n (Unmap a p) = refl
moved_same s n (Protect a p q) = refl
moved_same s n (Read a p) = resident_same s n (page_at s a p)
moved_same s n (Write a p w) =
    let x = page_at s a p in
    ap (λ t. written_to t w (lie t x)) (resident_same s n x) ∙ written_same (resident s x) n w (lie (resident s x) x)
moved_same s n (Wire a p) =
    let x = page_at s a p in
    ap (λ t. wired_to t a p (lie t x)) (resident_same s n x) ∙ wired_same (resident s x) n a p (lie (resident s x) x)
moved_same s n (Unwire a p) = refl
moved_same s n (Sync o) = ap (stored_to s n o) (synced_same s n o)
  where
    stored_to : (s : State) (n : Counts) (o : ℕ) → List ℕ → State
    stored_to s n o store = let t = synced s o in record { frames = t.frames; regions = t.regions; lies = t.lies; owners = t.owners; queue = t.queue; words = t.words; store = store; wired = t.wired; dirty = t.dirty; counts = n }

answer_same : (s : State) (n : Counts) (c : Call) (hit : Bool) → answer (with_counts s n) c hit ≡ answer s c hit
answer_same s n (Map a p count object offset q) hit = refl
answer_same s n (Unmap a p) hit = refl
answer_same s n (Protect a p q) hit = refl
answer_same s n (Read a p) hit =
    let x = page_at s a p in
    let word : word_in (resident (with_counts s n) x) (lie (resident (with_counts s n) x) x) ≡ word_in (resident s x) (lie (resident s x) x) =
    ap (λ t. word_in t (lie t x)) (resident_same s n x) ∙ word_same (resident s x) n (lie (resident s x) x) in
    ap (λ e. ReadAnswer (record { report = record { kind = kind_of hit (lie s x); evicted = e }; word = word_in (resident (with_counts s n) x) (lie (resident (with_counts s n) x) x) })) (evicted_same s n (lie s x))
    ∙ ap (λ w. ReadAnswer (record { report = record { kind = kind_of hit (lie s x); evicted = evicted_by s (lie s x) }; word = w })) word
answer_same s n (Write a p w) hit =
    let x = page_at s a p in
    ap (λ e. Wrote (record { kind = kind_of hit (lie s x); evicted = e })) (evicted_same s n (lie s x))
answer_same s n (Wire a p) hit =
    let x = page_at s a p in
    ap (λ e. Wired (record { loaded = not (is_some (lie s x)); evicted = e })) (evicted_same s n (lie s x))
answer_same s n (Unwire a p) hit = refl
answer_same s n (Sync o) hit = refl

-- a hit and a soft fault blur to the same

kinds_agree : (o : Option ℕ) (hit also : Bool) → (hit ≡ true → is_some o ≡ true) → (also ≡ true → is_some o ≡ true) → blur_kind (kind_of hit o) ≡ blur_kind (kind_of also o)
kinds_agree None true also h k = let e = h refl in never (cc)
kinds_agree None false true h k = let e = k refl in never (cc)
kinds_agree None false false h k = refl
kinds_agree (Some f) true true h k = refl
kinds_agree (Some f) true false h k = refl
kinds_agree (Some f) false true h k = refl
kinds_agree (Some f) false false h k = refl

-- two states that differ in their counts alone, and there only by hit and soft fault
pub record Twins (s t : State) : Type 0 where
  pub same : t ≡ with_counts s t.counts
  pub counts : CountsAgree s.counts t.counts

module _ (s t : State) (w : Twins s t) where
  twin_lie : (a p : ℕ) → is_some (lie t (page_at t a p)) ≡ is_some (lie s (page_at s a p))
  twin_lie a p = ap (λ u. is_some (lie u (page_at u a p))) w.same

  answers_agree : (c : Call) (hit also : Bool) → May s c hit → May t c also → blur (Ok (answer s c hit)) ≡ blur (Ok (answer s c also))
  answers_agree (Map a p count object offset q) hit also h k = refl
  answers_agree (Unmap a p) hit also h k = refl
  answers_agree (Protect a p q) hit also h k = refl
  answers_agree (Read a p) hit also h k =
      let x = page_at s a p in
      ap (λ m. Ok (ReadAnswer (record { report = record { kind = m; evicted = evicted_by s (lie s x) }; word = word_in (resident s x) (lie (resident s x) x) })))
      (kinds_agree (lie s x) hit also h.lies (λ e. sym (twin_lie a p) ∙ k.lies e))
  answers_agree (Write a p v) hit also h k =
      let x = page_at s a p in
      ap (λ m. Ok (Wrote (record { kind = m; evicted = evicted_by s (lie s x) })))
      (kinds_agree (lie s x) hit also h.lies (λ e. sym (twin_lie a p) ∙ k.lies e))
  answers_agree (Wire a p) hit also h k = refl
  answers_agree (Unwire a p) hit also h k = refl
  answers_agree (Sync o) hit also h k = refl

  twin_refusal : (c : Call) → refusal t c ≡ refusal s c
  twin_refusal c =
      ap (λ n. refuse (leb 1000000 n) CallLimit (call_refusal t c)) (sym w.counts.calls)
      ∙ ap (refuse (leb 1000000 s.counts.calls) CallLimit) (ap (λ u. call_refusal u c) w.same ∙ refusal_same s t.counts c)

  twin_moved : (c : Call) (o : Option MemoryRefusal) → moved_by t c o ≡ with_counts (moved_by s c o) t.counts
  twin_moved c None = ap (λ u. moved u c) w.same ∙ moved_same s t.counts c
  twin_moved c (Some e) = w.same

  twin_reply : (c : Call) (hit also : Bool) → May s c hit → May t c also → (o : Option MemoryRefusal) → blur (reply_by s c hit o) ≡ blur (reply_by t c also o)
  twin_reply c hit also h k None = answers_agree c hit also h k ∙ ap (λ a. blur (Ok a)) (sym (ap (λ u. answer u c also) w.same ∙ answer_same s t.counts c also))
  twin_reply c hit also h k (Some e) = refl

-- counts of replies that blur to the same

both_kinds : Reply → ℕ
both_kinds r = of_kind Hit r + of_kind Soft r

blur_kind_is : (k : Kind) → one (is_kind Hit k) + one (is_kind Soft k) ≡ one (is_kind Soft (blur_kind k))
blur_kind_is Hit = refl
blur_kind_is Soft = refl
blur_kind_is Hard = refl

blur_hard : (k : Kind) → one (is_kind Hard k) ≡ one (is_kind Hard (blur_kind k))
blur_hard Hit = refl
blur_hard Soft = refl
blur_hard Hard = refl

blur_both : (r : Reply) → both_kinds r ≡ of_kind Soft (blur r)
unfolding both_kinds
blur_both (Err e) = refl
blur_both (Ok Done) = refl
blur_both (Ok (ReadAnswer r)) = blur_kind_is r.report.kind
blur_both (Ok (Wrote r)) = blur_kind_is r.kind
blur_both (Ok (Wired w)) = refl
blur_both (Ok (Synced n)) = refl

-- the counts but hits and soft faults, as one value
record Rest : Type 0 where
  refused : ℕ
  hard : ℕ
  loads : ℕ
  evicted : ℕ
  stored : ℕ
  limit : Bool

rest : Reply → Rest
rest r = record { refused = refused_in r; hard = of_kind Hard r; loads = loads_in r; evicted = evictions (evicted_in r); stored = stored_in r; limit = is_limit r }

blur_rest : (r : Reply) → rest r ≡ rest (blur r)
unfolding rest
blur_rest (Err e) = refl
blur_rest (Ok Done) = refl
blur_rest (Ok (ReadAnswer r)) = ap (λ h. record { refused = 0; hard = h; loads = h; evicted = evictions r.report.evicted; stored = stored_in (Ok (ReadAnswer r)); limit = false }) (blur_hard r.report.kind)
blur_rest (Ok (Wrote r)) = ap (λ h. record { refused = 0; hard = h; loads = h; evicted = evictions r.evicted; stored = stored_in (Ok (Wrote r)); limit = false }) (blur_hard r.kind)
blur_rest (Ok (Wired w)) = refl
blur_rest (Ok (Synced n)) = refl

counts_agree : (n m : Counts) (r q : Reply) → CountsAgree n m → blur r ≡ blur q → CountsAgree (counted n r) (counted m q)
unfolding rest both_kinds
counts_agree n m r q w e = by (is_limit r) (is_limit q) (ap (λ x. x.limit) same)
  where
    same : rest r ≡ rest q
    same = blur_rest r ∙ ap rest e ∙ sym (blur_rest q)

    kinds : both_kinds r ≡ both_kinds q
    kinds = blur_both r ∙ ap (of_kind Soft) e ∙ sym (blur_both q)

    sums : CountsAgree (added n r) (added m q)
    sums = record {
      calls = ap (λ x. x + 1) w.calls;
      refused = omega (arith, w.refused, ap (λ x. x.refused) same);
      resident = omega (arith, w.resident, kinds);
      hard = omega (arith, w.hard, ap (λ x. x.hard) same);
      loads = omega (arith, w.loads, ap (λ x. x.loads) same);
      evicted = omega (arith, w.evicted, ap (λ x. x.evicted) same);
      stored = omega (arith, w.stored, ap (λ x. x.stored) same);
    }

    by : (a b : Bool) → a ≡ b → CountsAgree (cond a n (added n r)) (cond b m (added m q))
    by true true e = w
    by true false e = never (cc)
    by false true e = never (cc)
    by false false e = sums

-- one call

pub record Step (s t : State) (c d : Call) (hit also : Bool) : Type 0 where
  pub moments : MomentsAgree (record { call = c; reply = reply s c hit; after = shown (after s c hit) }) (record { call = d; reply = reply t d also; after = shown (after t d also) })
  pub twins : Twins (after s c hit) (after t d also)

step : (s t : State) → Twins s t → (c : Call) (hit also : Bool) → May s c hit → May t c also → Step s t c c hit also
step s t w c hit also h k = record {
  moments = record { replies = replies; counts = counts; store = sym (ap (λ u. u.store) same); modified = sym (ap is_modified same) };
  twins = record { same = same; counts = counts };
}
  where
    replies : blur (reply s c hit) ≡ blur (reply t c also)
    replies = twin_reply s t w c hit also h k (refusal s c) ∙ ap (λ o. blur (reply_by t c also o)) (sym (twin_refusal s t w c))

    counts : CountsAgree (counted s.counts (reply s c hit)) (counted t.counts (reply t c also))
    counts = counts_agree s.counts t.counts (reply s c hit) (reply t c also) w.counts replies

    same : after t c also ≡ with_counts (after s c hit) (counted t.counts (reply t c also))
    same = ap (λ u. with_counts u (counted t.counts (reply t c also))) (ap (moved_by t c) (twin_refusal s t w c) ∙ twin_moved s t w c (refusal s c))

-- two runs

pub agree : {n : ℕ} {h g : List Moment} {s t : State} → Passed n h s → Passed n g t → calls_of h ≡ calls_of g → Agree h g × Twins s t
agree begun begun e = (at_start, record { same = refl; counts = record { calls = refl; refused = refl; resident = refl; hard = refl; loads = refl; evicted = refl; stored = refl } })
agree begun (called y d also k) e = never (cc)
agree (called x c hit h) begun e = never (cc)
agree (called {s} x c hit h) (called {s = t} y d also k) e =
    let calls : c ≡ d = cc in
    let before = agree x y (cc) in
    let one = subst (λ b. May t b also → Step s t c b hit also) calls (step s t before.1 c hit also h) k in
    (at_call one.moments before.0, one.twins)

-- the histories of two memories of one number of frames, over any two pmaps, with the same calls
pub agreement : (n : ℕ) {h g : List Moment} {s t : State} → Passed n h s → Passed n g t → calls_of h ≡ calls_of g → Agree h g
agreement n x y e = (agree x y e).0

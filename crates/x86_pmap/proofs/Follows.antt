-- The slots of a board before and after a change that leaves the words above the leaves alike.
use Rattle.std.proofs.Common.{◌≡◌, ℕ, ◌+◌, ◌*◌, ◌/◌, ◌%◌, ◌<◌, ◌≤◌, Bool, true, false, cond, ◌||◌, eqb, ◌⊎◌, length, get_or, Some, None, Option, sym, refl, ap, ◌∙◌, subst, inl, inr, ⊎_elim, arith}
use Rattle.std.proofs.lemmas.Bool.{cases_lt, and_parts, and_from, cond-false, both_ways, eq-eqb, eqb-true, or_left, or_right, or_cases}
use Rattle.std.proofs.lemmas.List.{get_or_past}
use Rattle.slots.specs.Slots.{Entry}
use Rattle.slots.specs.Changes.{Emptied, GoneBit}
use Rattle.x86_words.specs.Words.{present, dirty, frame_of, dirty_in}
use Rattle.x86_words.specs.Walks.{walk}
use Rattle.x86_words.specs.State.{State, word_at, reached, any_dirty}
use Rattle.x86_words.proofs.Sweeps.{Emptying, any_dirty_is, frame_low_is}
use Rattle.x86_pmap.specs.Kept.{Kept, Points}
use Rattle.x86_pmap.proofs.Fields.{points_same, zero_present}
use Rattle.x86_pmap.proofs.Tables.{table, slot_of, slot_in, entry_of, Reaches, walk_reaches, page_cases, slot_nothing, slot_reached, slot_past, slot_used, word_placed, dirty_some}
use Rattle.x86_pmap.proofs.Keeps.{Alike, alike_points, alike_zero}

-- two pages that come to the same leaf word are the same
pub reach_inj : (st : State) → Kept st → (n m t u : ℕ) → Reaches st n t → Reaches st m u → 512 * t + n % 512 ≡ 512 * u + m % 512 → n ≡ m
reach_inj st K n m t u r q e =
    let same : t ≡ u = omega (arith, e) in
    let a = r.within in
    let b = q.within in
    let dirs = K.single (1024 + n / 512) (1024 + m / 512) t (omega arith) (omega arith) (omega arith) (omega arith) r.points (subst (Points (word_at st (1024 + m / 512))) (sym same) q.points) in
    omega (arith, dirs, e, same)

-- a page comes to one leaf word
pub reach_same : (st : State) (n t u : ℕ) → Reaches st n t → Reaches st n u → t ≡ u
reach_same st n t u r q = points_same _ t u r.points q.points

module _ (st v : State) (K : Kept st) (L : Kept v) (upper : (k : ℕ) → k < 3072 → Alike (word_at st k) (word_at v k)) where
  pub reaches_on : (n t : ℕ) → Reaches st n t → Reaches v n t
  reaches_on n t r =
      let h = r.within in
      walk_reaches v L n h t r.low r.high (alike_points _ _ (upper (1024 + n / 512) (omega arith)) t r.points)

  -- a slot before and after: nothing in both, or the leaf word at the same position
  pub both_slots : (P : ℕ → Option Entry → Option Entry → Type 0) → ((n : ℕ) → P n None None)
      → ((n t : ℕ) → Reaches st n t → P n (slot_in n (word_at st (512 * t + n % 512))) (slot_in n (word_at v (512 * t + n % 512)))) → (n : ℕ) → P n (slot_of st n) (slot_of v n)
  both_slots P nothing reach n = ⊎_elim
      (λ (h : n < 1048576). ⊎_elim
      (λ z. rw (slot_nothing st K n h z, slot_nothing v L n h (alike_zero _ _ (upper (1024 + n / 512) (omega arith)) z)) (nothing n))
      (λ r. rw (slot_reached st K n r.0 r.1, slot_reached v L n r.0 (reaches_on n r.0 r.1)) (reach n r.0 r.1))
      (page_cases st K n h))
      (λ (h : 1048576 ≤ n). rw (slot_past st n h, slot_past v n h) (nothing n))
      (cases_lt n 1048576)

-- the pages whose leaf word lies in a set of positions
abbrev pub pages_in : State → (ℕ → Bool) → ℕ → Bool
pages_in st gone n = reached (walk st.words n) false (λ w. gone w.leaf)

pub pages_in_is : (st : State) (gone : ℕ → Bool) (n t : ℕ) → Reaches st n t → pages_in st gone n ≡ gone (512 * t + n % 512)
pages_in_is st gone n t r = ap (λ x. reached x false (λ w. gone w.leaf)) r.walks

either_none : (b : Bool) → ◌≡◌ {A = Option Entry} None (cond b None None)
either_none true = refl
either_none false = refl

-- the mark of every frame after positions are emptied
module _ (st v : State) (gone : ℕ → Bool) (size : length st.marks ≡ 256) (size' : length v.marks ≡ 256)
    (marks : (f : ℕ) → f < 256 → get_or v.marks f false ≡ (get_or st.marks f false || any_dirty st.words gone f 8192)) where
  mark_back : (f : ℕ) → get_or v.marks f false ≡ true → f < 256
  mark_back f e = ⊎_elim (λ (l : f < 256). l) (λ (l : 256 ≤ f). absurd (both_ways (get_or v.marks f false) (get_or_past v.marks f false (omega arith)) e)) (cases_lt f 256)

  mark_before : (f : ℕ) → get_or st.marks f false ≡ true → f < 256
  mark_before f e = ⊎_elim (λ (l : f < 256). l) (λ (l : 256 ≤ f). absurd (both_ways (get_or st.marks f false) (get_or_past st.marks f false (omega arith)) e)) (cases_lt f 256)

  module _ (K : Kept st) (leaf : (k : ℕ) → gone k ≡ true → 3072 ≤ k) where
    marks_kept : (f : ℕ) → get_or st.marks f false ≡ true → get_or v.marks f false ≡ true
    marks_kept f e = marks f (mark_before f e) ∙ or_left _ _ e

    marks_merged : (f : ℕ) → GoneBit (table st) (pages_in st gone) f → get_or v.marks f false ≡ true
    marks_merged f x =
        let u = slot_used st K x.at x.entry x.found in
        let r = u.reaches in
        let k = 512 * u.leaf + x.at % 512 in
        let d : dirty_in (word_at st k) f ≡ true = and_from _ _ (sym (ap (λ z. z.dirty) u.is) ∙ x.on) (eq-eqb _ _ (sym (ap (λ z. z.frame) u.is) ∙ x.frame)) in
        let low : f < 256 = rw (sym x.frame ∙ ap (λ z. z.frame) u.is) (frame_low_is (word_at st k)) in
        marks f low ∙ or_right _ _ ((any_dirty_is st.words gone f 8192).1 (k, omega (arith, r.high), and_from _ _ (sym (pages_in_is st gone x.at u.leaf r) ∙ x.goes) d))

    marks_only : (f : ℕ) → get_or v.marks f false ≡ true → (get_or st.marks f false ≡ true) ⊎ GoneBit (table st) (pages_in st gone) f
    marks_only f e = ⊎_elim
        (λ m. inl m)
        (λ d. let x = (any_dirty_is st.words gone f 8192).0 d in
        let parts = and_parts (gone x.0) _ x.2 in
        let bits = and_parts (dirty (word_at st x.0)) (eqb (frame_of (word_at st x.0)) f) parts.1 in
        let p = word_placed st K x.0 (leaf x.0 parts.0) x.1 (dirty_some st K x.0 f parts.1) in
        inr (record { at = p.page; entry = entry_of p.page (word_at st x.0); found = p.slot; goes = pages_in_is st gone p.page (x.0 / 512) p.reaches ∙ ap gone p.at ∙ parts.0; frame = eqb-true _ _ bits.1; on = bits.0 }))
        (or_cases (get_or st.marks f false) (any_dirty st.words gone f 8192) (sym (marks f (mark_back f e)) ∙ e))

    pub emptied_from : ((n : ℕ) → slot_of v n ≡ cond (pages_in st gone n) None (slot_of st n)) → Emptied (table st) (table v) (pages_in st gone)
    emptied_from slots = record { slots = slots; kept = marks_kept; merged = marks_merged; only = marks_only }

-- positions of leaves are emptied
pub emptying_slots : (st v : State) (K : Kept st) (L : Kept v) → ((k : ℕ) → k < 3072 → Alike (word_at st k) (word_at v k)) → (gone : ℕ → Bool) → ((k : ℕ) → gone k ≡ true → 3072 ≤ k) → Emptying st v gone
    → Emptied (table st) (table v) (pages_in st gone)
emptying_slots st v K L upper gone leaf E =
    emptied_from st v gone K.marked L.marked E.marks K leaf
    (both_slots st v K L upper (λ n a b. b ≡ cond (pages_in st gone n) None a) (λ n. either_none (pages_in st gone n)) reach)
  where
    step : (g : Bool) (n w : ℕ) → slot_in n (cond g 0 w) ≡ cond g None (slot_in n w)
    step true n w = cond-false (present 0) (Some (entry_of n 0)) None zero_present
    step false n w = refl

    reach : (n t : ℕ) → Reaches st n t → slot_in n (word_at v (512 * t + n % 512)) ≡ cond (pages_in st gone n) None (slot_in n (word_at st (512 * t + n % 512)))
    reach n t r =
        let k = 512 * t + n % 512 in
        ap (slot_in n) (E.words k) ∙ step (gone k) n (word_at st k) ∙ ap (λ g. cond g None (slot_in n (word_at st k))) (sym (pages_in_is st gone n t r))

-- The words of a kept board as slots: one slot for each linear page, with what the walk finds there.
use Rattle.std.proofs.Common.{◌≡◌, ℕ, ◌+◌, ◌-◌, ◌*◌, ◌/◌, ◌%◌, ◌<◌, ◌≤◌, true, false, cond, eqb, ltb, ◌⊎◌, get_or, Some, None, Option, sym, refl, ap, ◌∙◌, inl, inr, ⊎_elim, arith}
use Rattle.std.proofs.lemmas.Bool.{cases_lt, cases_Bool, cond-true, cond-false, lt-ltb, le-ltb, ltb-true, le-leb, leb-true, and_from, and_parts, or_left, or_right, or_cases, both_ways, eq-eqb, eqb-true}
use Rattle.std.proofs.lemmas.Nat.{shr-shr}
use Rattle.pmap.specs.Meaning.{Mapping}
use Rattle.pmap.specs.Ranges.{fits_place}
use Rattle.slots.specs.Slots.{Entry, Table, Single, Held, Bit, Shows, mapping_of}
use Rattle.slots.proofs.Shown.{none_some, some_inj}
use Rattle.x86_words.specs.declared.walk.Walk.{Walk}
use Rattle.x86_words.specs.Words.{present, dirty, wired, frame_of, protection_of, dirty_in, table_of}
use Rattle.x86_words.specs.Walks.{linear, position, walk}
use Rattle.x86_words.specs.State.{State, word_at, reached, found, found_in, is_leaf, any_dirty}
use Rattle.x86_words.proofs.Steps.{walk_no_leaf, walk_leaf}
use Rattle.x86_words.proofs.Sweeps.{any_dirty_is}
use Rattle.x86_pmap.specs.Kept.{Kept, Points, Mapped, Owner}
use Rattle.x86_pmap.specs.Views.{view_of}
use Rattle.x86_pmap.proofs.Fields.{points_table, zero_table, mapped_present, zero_dirty}

-- what a slot holds: a leaf word for a linear page
abbrev pub entry_of : ℕ → ℕ → Entry
entry_of n w = record { space = n / 262144; page = n % 262144; frame = frame_of w; protection = protection_of w; wired = wired w; dirty = dirty w }

abbrev pub slot_in : ℕ → ℕ → Option Entry
slot_in n w = cond (present w) (Some (entry_of n w)) None

unfoldable pub slot_of : State → ℕ → Option Entry
slot_of st n = cond (ltb n 1048576) (reached (walk st.words n) None (λ v. slot_in n (word_at st v.leaf))) None

abbrev pub table : State → Table
table st = record { slot = slot_of st; mark = λ f. get_or st.marks f false }

-- the words that the walk for a linear page meets where its directory word points to leaf t
abbrev pub met : ℕ → ℕ → Walk
met n t = record { root = 0; entry = 512 + n / 262144; directory = 1024 + n / 512; leaf = 512 * t + n % 512 }

pub record Reaches (st : State) (n t : ℕ) : Type 0 where
  pub within : n < 1048576
  pub low : 6 ≤ t
  pub high : t ≤ 15
  pub points : Points (word_at st (1024 + n / 512)) t
  pub walks : walk st.words n ≡ Some (met n t)

module _ (st : State) (K : Kept st) where
  module _ (n : ℕ) (h : n < 1048576) where
    space_low : n / 262144 < 4
    space_low = omega arith

    at_root : 0 ≡ position 0 n 134217728
    at_root = omega arith

    to_entry : Some 1 ≡ table_of (get_or st.words 0 0)
    to_entry = sym (points_table _ 1 K.root (omega arith))

    at_entry : 512 + n / 262144 ≡ position 1 n 262144
    at_entry = omega arith

    to_directory : Some (2 + n / 262144) ≡ table_of (get_or st.words (512 + n / 262144) 0)
    to_directory = sym (points_table _ (2 + n / 262144) (K.entries (n / 262144) space_low) (omega arith))

    at_directory : 1024 + n / 512 ≡ position (2 + n / 262144) n 512
    at_directory = omega (arith, shr-shr n 9 9)

    pub walk_nothing : word_at st (1024 + n / 512) ≡ 0 → walk st.words n ≡ None
    walk_nothing e = walk_no_leaf st.words n 0 at_root 1 (512 + n / 262144) to_entry at_entry (2 + n / 262144) (1024 + n / 512) to_directory at_directory (sym (ap table_of e ∙ zero_table))

    pub walk_reaches : (t : ℕ) → 6 ≤ t → t ≤ 15 → Points (word_at st (1024 + n / 512)) t → Reaches st n t
    walk_reaches t low high p = record {
      within = h;
      low = low;
      high = high;
      points = p;
      walks = walk_leaf st.words n 0 at_root 1 (512 + n / 262144) to_entry at_entry (2 + n / 262144) (1024 + n / 512) to_directory at_directory t (512 * t + n % 512) (sym (points_table _ t p (omega arith))) (omega arith);
    }

    -- the directory word of a page is zero, or the walk comes to a leaf
    pub page_cases : (word_at st (1024 + n / 512) ≡ 0) ⊎ ((t : ℕ) × Reaches st n t)
    page_cases = ⊎_elim (λ e. inl e) (λ l. inr (l.leaf, walk_reaches l.leaf l.low l.high l.points)) (K.directories (1024 + n / 512) (omega arith) (omega arith))

    pub slot_nothing : word_at st (1024 + n / 512) ≡ 0 → slot_of st n ≡ None
    unfolding slot_of
    slot_nothing e = cond-true (ltb n 1048576) _ None (lt-ltb n 1048576 h) ∙ ap (λ r. reached r None (λ v. slot_in n (word_at st v.leaf))) (walk_nothing e)

  pub slot_reached : (n t : ℕ) → Reaches st n t → slot_of st n ≡ slot_in n (word_at st (512 * t + n % 512))
  unfolding slot_of
  slot_reached n t r = cond-true (ltb n 1048576) _ None (lt-ltb n 1048576 r.within) ∙ ap (λ x. reached x None (λ v. slot_in n (word_at st v.leaf))) r.walks

pub slot_past : (st : State) (n : ℕ) → 1048576 ≤ n → slot_of st n ≡ None
unfolding slot_of
slot_past st n h = cond-false (ltb n 1048576) _ None (le-ltb n 1048576 h)

-- a slot in use: the walk comes to its word, which is present
pub record Used (st : State) (n : ℕ) (e : Entry) : Type 0 where
  pub leaf : ℕ
  pub reaches : Reaches st n leaf
  pub on : present (word_at st (512 * leaf + n % 512)) ≡ true
  pub is : e ≡ entry_of n (word_at st (512 * leaf + n % 512))

module _ (st : State) (K : Kept st) where
  pub slot_used : (n : ℕ) (e : Entry) → slot_of st n ≡ Some e → Used st n e
  slot_used n e q = ⊎_elim
      (λ (h : n < 1048576). ⊎_elim
      (λ z. absurd (none_some (sym (slot_nothing st K n h z) ∙ q)))
      (λ r. used r.0 r.1)
      (page_cases st K n h))
      (λ (h : 1048576 ≤ n). absurd (none_some (sym (slot_past st n h) ∙ q)))
      (cases_lt n 1048576)
    where
      used : (t : ℕ) → Reaches st n t → Used st n e
      used t r = ⊎_elim
          (λ (p : present w ≡ true). record { leaf = t; reaches = r; on = p; is = some_inj (sym q ∙ slot_reached st K n t r ∙ cond-true (present w) (Some (entry_of n w)) None p) })
          (λ (p : present w ≡ false). absurd (none_some (sym (slot_reached st K n t r ∙ cond-false (present w) (Some (entry_of n w)) None p) ∙ q)))
          (cases_Bool (present w))
        where
          w : ℕ
          w = word_at st (512 * t + n % 512)

  -- a leaf word in use stands in a slot
  pub record Placed (k : ℕ) : Type 0 where
    pub page : ℕ
    pub reaches : Reaches st page (k / 512)
    pub at : 512 * (k / 512) + page % 512 ≡ k
    pub slot : slot_of st page ≡ Some (entry_of page (word_at st k))

  pub word_placed : (k : ℕ) → 3072 ≤ k → k < 8192 → (word_at st k ≡ 0 → ⊥) → Placed k
  word_placed k low high some = ⊎_elim (λ z. absurd (some z)) (λ m. place m.0 m.1) (K.leaves k low high)
    where
      place : Mapped (word_at st k) → Owner st (k / 512) → Placed k
      place m o = record {
        page = n;
        reaches = r;
        at = back;
        slot = slot_reached st K n (k / 512) r ∙ ap (λ j. slot_in n (word_at st j)) back ∙ cond-true _ (Some (entry_of n (word_at st k))) None (mapped_present _ m);
      }
        where
          n : ℕ
          n = (o.at - 1024) * 512 + k % 512

          directory : 1024 + n / 512 ≡ o.at
          directory = omega arith

          back : 512 * (k / 512) + n % 512 ≡ k
          back = omega arith

          inside : n < 1048576
          inside = omega arith

          r : Reaches st n (k / 512)
          r = walk_reaches st K n inside (k / 512) (omega arith) (omega arith) (rw directory o.points)

pub fits_true : (a b : ℕ) → a < 4 → b < 262144 → fits_place a b ≡ true
fits_true a b p q = and_from (ltb a 4) (ltb b 262144) (lt-ltb a 4 p) (lt-ltb b 262144 q)

pub fits_both : (a b : ℕ) → fits_place a b ≡ true → (a < 4) × (b < 262144)
fits_both a b e = let parts = and_parts (ltb a 4) (ltb b 262144) e in (ltb-true a 4 parts.0, ltb-true b 262144 parts.1)

module _ (st : State) (K : Kept st) where
  pub table_single : Single (table st)
  table_single j k d e p q x y =
      let a = slot_used st K j d p in
      let b = slot_used st K k e q in
      let s : j / 262144 ≡ k / 262144 = sym (ap (λ z. z.space) a.is) ∙ x ∙ ap (λ z. z.space) b.is in
      let t : j % 262144 ≡ k % 262144 = sym (ap (λ z. z.page) a.is) ∙ y ∙ ap (λ z. z.page) b.is in
      omega (arith, s, t)

  -- what is found at a place, by its leaf word
  pub found_reached : (a b n t : ℕ) → Reaches st n t → linear a b ≡ n → found st a b ≡ found_in (word_at st (512 * t + n % 512))
  found_reached a b n t r e = ap (λ x. reached x None (λ w. found_in (word_at st w.leaf))) (ap (walk st.words) e ∙ r.walks)

  pub found_nothing : (a b n : ℕ) → n < 1048576 → linear a b ≡ n → word_at st (1024 + n / 512) ≡ 0 → found st a b ≡ None
  found_nothing a b n h e z = ap (λ x. reached x None (λ w. found_in (word_at st w.leaf))) (ap (walk st.words) e ∙ walk_nothing st K n h z)

  shows_holds : (n : ℕ) (e : Entry) → slot_of st n ≡ Some e → (view_of st).held e.space e.page ≡ Some (mapping_of e)
  shows_holds n e q = rw u.is
      (cond-true _ _ None (fits_true (n / 262144) (n % 262144) (omega (arith, r.within)) (omega arith))
      ∙ found_reached (n / 262144) (n % 262144) n u.leaf r (omega arith)
      ∙ cond-true _ _ None u.on)
    where
      u : Used st n e
      u = slot_used st K n e q

      r : Reaches st n u.leaf
      r = u.reaches

  shows_only : (a b : ℕ) (m : Mapping) → (view_of st).held a b ≡ Some m → Held (table st) a b
  shows_only a b m q = ⊎_elim
      (λ (f : fits_place a b ≡ true). inside (fits_both a b f).0 (fits_both a b f).1 (sym (cond-true _ _ None f) ∙ q))
      (λ (f : fits_place a b ≡ false). absurd (none_some (sym (cond-false _ _ None f) ∙ q)))
      (cases_Bool (fits_place a b))
    where
      inside : a < 4 → b < 262144 → found st a b ≡ Some m → Held (table st) a b
      inside x y g = ⊎_elim
          (λ z. absurd (none_some (sym (found_nothing a b (linear a b) (omega arith) refl z) ∙ g)))
          (λ r. at r.0 r.1)
          (page_cases st K (linear a b) (omega arith))
        where
          at : (t : ℕ) → Reaches st (linear a b) t → Held (table st) a b
          at t r = ⊎_elim
              (λ (p : present w ≡ true). record {
                at = linear a b;
                entry = entry_of (linear a b) w;
                found = slot_reached st K (linear a b) t r ∙ cond-true _ _ None p;
                space = omega arith;
                page = omega arith;
              })
              (λ (p : present w ≡ false). absurd (none_some (sym (found_reached a b (linear a b) t r refl ∙ cond-false _ _ None p) ∙ g)))
              (cases_Bool (present w))
            where
              w : ℕ
              w = word_at st (512 * t + linear a b % 512)

  -- a dirty leaf word stands in a slot
  pub dirty_some : (k f : ℕ) → dirty_in (word_at st k) f ≡ true → word_at st k ≡ 0 → ⊥
  dirty_some k f d z = both_ways (dirty (word_at st k)) (ap dirty z ∙ zero_dirty) (and_parts (dirty (word_at st k)) _ d).0

  pub word_bit : (k f : ℕ) → 3072 ≤ k → k < 8192 → dirty_in (word_at st k) f ≡ true → Bit (table st) f
  word_bit k f low high d =
      let p = word_placed st K k low high (dirty_some k f d) in
      let parts = and_parts (dirty (word_at st k)) (eqb (frame_of (word_at st k)) f) d in
      record { at = p.page; entry = entry_of p.page (word_at st k); found = p.slot; frame = eqb-true _ _ parts.1; on = parts.0 }

  pub bit_word : (f : ℕ) (x : Bit (table st) f) → (u : Used st x.at x.entry) × (dirty_in (word_at st (512 * u.leaf + x.at % 512)) f ≡ true)
  bit_word f x =
      let u = slot_used st K x.at x.entry x.found in
      (u, and_from _ _ (sym (ap (λ z. z.dirty) u.is) ∙ x.on) (eq-eqb _ _ (sym (ap (λ z. z.frame) u.is) ∙ x.frame)))

  pub table_shows : Shows (table st) (view_of st)
  table_shows = record {
    holds = shows_holds;
    only = shows_only;
    marks = λ f e. or_left _ _ e;
    bits = λ f x. let b = bit_word f x in
        let r = b.0.reaches in
        or_right _ _ ((any_dirty_is st.words is_leaf f 8192).1 (512 * b.0.leaf + x.at % 512, omega (arith, r.high), and_from _ _ (le-leb 3072 (512 * b.0.leaf + x.at % 512) (omega (arith, r.low))) b.1));
    told = λ f e. ⊎_elim
        (λ m. inl m)
        (λ d. let x = (any_dirty_is st.words is_leaf f 8192).0 d in
        let parts = and_parts (is_leaf x.0) _ x.2 in
        inr (word_bit x.0 f (leb-true 3072 x.0 parts.0) x.1 parts.1))
        (or_cases (get_or st.marks f false) (any_dirty st.words is_leaf f 8192) e);
  }

-- Going through all slots: what the steps leave is the list by index that the rules name.
use Rattle.std.proofs.Common.{◌≡◌, ℕ, ◌+◌, ◌*◌, ◌/◌, ◌%◌, ◌<◌, ◌≤◌, Bool, true, false, cond, ◌&&◌, ◌||◌, eqb, ltb, List, map, length, get_or, set, Decides, sym, refl, ap, ◌∙◌, subst, zero, suc, zero-add, ⊎_elim, add-one, arith}
use Rattle.std.specs.Bool.{MatchBool}
use Rattle.std.specs.List.{range_with_len, filter, count_by, HoldsAt, AllWithin}
use Rattle.std.proofs.lemmas.Bool.{eq-eqb, ne_eqb, cond-true, cond-false, cond_both, cases_eq, cases_Bool, and_parts, eqb-true, or_left}
use Rattle.std.proofs.lemmas.Bool.Decides.{Decides-below_or, nat_tests}
use Rattle.std.proofs.lemmas.List.FromFn.{fill_by_all, length-map-range_with_len, get_or-map-range_with_len, sum_by-map-range_with_len_more}
use Rattle.std.proofs.lemmas.List.Sums.{length-filter}
use Rattle.std.proofs.lemmas.List.{get_or-set_same, get_or-set_other, length-set, set-get_or, set-set}
use Rattle.pmap.specs.Tally.{tally}
use Rattle.powerpc_words.specs.Fields.{frame_of, changed, cleaned}
use Rattle.powerpc_words.specs.State.{State, second}
use Rattle.powerpc_words.specs.Changes.{emptied, reworded, maps, dirty_at, any_dirty, modified_in, drop_at, clean_at, dropped_word, dropped_wired, dropped, clean_word, unmarked}

-- two states with the same parts are one
pub same_state : (a b : State) → a.words ≡ b.words → a.marks ≡ b.marks → a.wired ≡ b.wired → a.next ≡ b.next → a ≡ b
same_state a b w m p n =
    ap (λ l. record { words = l; marks = a.marks; wired = a.wired; next = a.next }) w
    ∙ ap (λ l. record { words = b.words; marks = l; wired = a.wired; next = a.next }) m
    ∙ ap (λ l. record { words = b.words; marks = b.marks; wired = l; next = a.next }) p
    ∙ ap (λ l. record { words = b.words; marks = b.marks; wired = b.wired; next = l }) n

-- a list whose first i places have become g, and the others are as they were
pub record Swept {X : Type 0} (g : ℕ → X) (d : X) (xs : List X) (i : ℕ) (ys : List X) : Type 0 where
  pub done : (k : ℕ) → k < i → get_or ys k d ≡ g k
  pub rest : (k : ℕ) → i ≤ k → get_or ys k d ≡ get_or xs k d
  pub len : length ys ≡ length xs

module _ {X : Type 0} (g : ℕ → X) (d : X) (xs : List X) where
  pub swept_none : Swept g d xs 0 xs
  swept_none = record { done = λ k h. absurd (omega (arith, h)); rest = λ k h. refl; len = refl }

  module _ (i : ℕ) (ys : List X) (s : Swept g d xs i ys) where
    pub swept_keep : g i ≡ get_or xs i d → Swept g d xs (i + 1) ys
    swept_keep e = record {
      done = λ k h. ⊎_elim
          (λ (q : k ≡ i). (subst (λ n. get_or ys n d ≡ g n) (sym q) (s.rest i (omega arith) ∙ sym e)))
          (λ (q : k ≡ i → ⊥). s.done k (omega arith))
          (cases_eq k i);
      rest = λ k h. s.rest k (omega arith);
      len = s.len;
    }

    pub swept_write : (x : X) → i < length xs → x ≡ g i → Swept g d xs (i + 1) (set ys i x)
    swept_write x b e = record {
      done = λ k h. ⊎_elim
          (λ (q : k ≡ i). (subst (λ n. get_or (set ys i x) n d ≡ g n) (sym q) (get_or-set_same ys i x d (omega (arith, s.len)) ∙ e)))
          (λ (q : k ≡ i → ⊥). get_or-set_other ys i k x d q ∙ s.done k (omega arith))
          (cases_eq k i);
      rest = λ k h. get_or-set_other ys i k x d (λ q. omega arith) ∙ s.rest k (omega arith);
      len = length-set ys i x ∙ s.len;
    }

  pub swept_all : (n i : ℕ) (ys : List X) → Swept g d xs i ys → length xs ≡ n → n ≤ i → ys ≡ map g (range_with_len 0 n)
  swept_all n i ys s e h = fill_by_all g ys n d (s.len ∙ e) (λ k lt. s.done k (omega arith))

  swept_at : (i j : ℕ) (ys : List X) → i ≡ j → Swept g d xs i ys → Swept g d xs j ys
  swept_at i j ys e s = subst (λ n. Swept g d xs n ys) e s

-- the tests read only the slot's two words
pub maps_same : (ws vs : List ℕ) (f k : ℕ) → get_or ws (2 * k) 0 ≡ get_or vs (2 * k) 0 → get_or ws (2 * k + 1) 0 ≡ get_or vs (2 * k + 1) 0 → maps ws f k ≡ maps vs f k
unfolding maps
maps_same ws vs f k a b = rw (a, b)

pub maps_frame : (words : List ℕ) (f k : ℕ) → maps words f k ≡ true → frame_of (get_or words (2 * k + 1) 0) ≡ f
unfolding maps
maps_frame words f k e = eqb-true _ f (and_parts (ltb 0 (get_or words (2 * k) 0)) _ e).1

pub any_dirty_none : (words : List ℕ) (f : ℕ) → any_dirty words f 0 ≡ false
unfolding any_dirty
any_dirty_none words f = refl

pub any_dirty_more : (words : List ℕ) (f i : ℕ) → any_dirty words f (i + 1) ≡ (dirty_at words f i || any_dirty words f i)
unfolding any_dirty
any_dirty_more words f i = rw add-one

-- some slot below n maps the frame with C on
pub any_dirty_decides : (words : List ℕ) (f n : ℕ) → Decides (any_dirty words f n) ((k : ℕ) × (k < n) × (dirty_at words f k ≡ true))
unfolding any_dirty
any_dirty_decides words f n = Decides-below_or (dirty_at words f) (λ k. dirty_at words f k ≡ true) (any_dirty words f) (λ k. ((λ e. e), (λ e. e))) refl (λ _. refl) n

-- what `any` answers over the first n slots
pub any_dirty_from : (words : List ℕ) (f n : ℕ) (r : Bool) → let all : List ℕ = map (λ k. k) (range_with_len 0 n) in
    MatchBool r ((k : ℕ) × (k < length all) × HoldsAt (λ k. dirty_at words f k ≡ true) all k) (AllWithin (λ k. dirty_at words f k ≡ false) all 0 (length all)) → r ≡ any_dirty words f n
any_dirty_from words f n true (k, b, e) =
    let h : k < n = omega (arith, b, length-map-range_with_len {X = ℕ} (λ k. k) 0 n) in
    sym ((any_dirty_decides words f n).1 (k, h, subst (λ j. dirty_at words f j ≡ true) (get_or-map-range_with_len (λ k. k) 0 n k k 0 h (zero-add k)) (e 0)))
any_dirty_from words f n false none = ⊎_elim
    (λ (t : any_dirty words f n ≡ true).
    let some = (any_dirty_decides words f n).0 t in
    let k = some.0 in
    let off : dirty_at words f k ≡ false = subst (λ j. dirty_at words f j ≡ false) (get_or-map-range_with_len (λ k. k) 0 n k k 0 some.1 (zero-add k)) (none k 0 (omega arith) (omega (arith, some.1, length-map-range_with_len {X = ℕ} (λ k. k) 0 n))) in
    absurd (cc (some.2, off)))
    (λ (t : any_dirty words f n ≡ false). sym t)
    (cases_Bool (any_dirty words f n))

-- how many of the first n numbers a filter leaves
pub tally_filtered : (test : ℕ → Bool) (n : ℕ) → length (filter test (map (λ k. k) (range_with_len 0 n))) ≡ tally test n
unfolding tally
tally_filtered test zero = refl
tally_filtered test (suc n) =
    let more : count_by test (map (λ k. k) (range_with_len 0 (n + 1))) ≡ count_by test (map (λ k. k) (range_with_len 0 n)) + cond (test n) 1 0 = sum_by-map-range_with_len_more (λ k. cond (test k) 1 0) (λ k. k) 0 n n (zero-add n) in
    let next : count_by test (map (λ k. k) (range_with_len 0 (suc n))) ≡ count_by test (map (λ k. k) (range_with_len 0 n)) + cond (test n) 1 0 = rw add-one at more in
    omega (arith, next, tally_filtered test n, length-filter test (map (λ k. k) (range_with_len 0 n)), length-filter test (map (λ k. k) (range_with_len 0 (suc n))))

module _ (st : State) (f : ℕ) where
  pub modified_mark : get_or st.marks f false ≡ true → true ≡ modified_in st f
  unfolding modified_in
  modified_mark e = sym (or_left _ _ e)

  pub modified_slot : (k : ℕ) → k < 8192 → dirty_at st.words f k ≡ true → true ≡ modified_in st f
  unfolding modified_in
  modified_slot k b e = grind (arith, nat_tests, any_dirty_decides st.words f 8192)

-- ---- drop
pub record Dropping (st : State) (f i : ℕ) (sv : State) : Type 0 where
  pub words : Swept (dropped_word st.words f) 0 st.words (2 * i) sv.words
  pub wired : Swept (dropped_wired st.words st.wired f) false st.wired i sv.wired
  pub marks : sv.marks ≡ set st.marks f (get_or st.marks f false || any_dirty st.words f i)
  pub next : sv.next ≡ st.next

or_false : (a : Bool) → (a || false) ≡ a
or_false true = refl
or_false false = refl

or_true : (a b : Bool) → true ≡ (a || (true || b))
or_true true b = refl
or_true false b = refl

pub dropping_none : (st : State) (f : ℕ) → Dropping st f 0 st
dropping_none st f = record {
  words = swept_none _ _ _;
  wired = swept_none _ _ _;
  marks = sym (ap (λ t. set st.marks f (get_or st.marks f false || t)) (any_dirty_none st.words f) ∙ ap (set st.marks f) (or_false (get_or st.marks f false)) ∙ set-get_or st.marks f false);
  next = refl;
}

module _ (st : State) (f i : ℕ) (sv : State) (now_is : Dropping st f i sv) where
  W : List ℕ
  W = st.words

  first_same : get_or sv.words (2 * i) 0 ≡ get_or st.words (2 * i) 0
  first_same = now_is.words.rest (2 * i) (omega arith)

  second_same : get_or sv.words (2 * i + 1) 0 ≡ get_or st.words (2 * i + 1) 0
  second_same = now_is.words.rest (2 * i + 1) (omega arith)

  maps_now : maps sv.words f i ≡ maps st.words f i
  maps_now = maps_same sv.words st.words f i first_same second_same

  dropping_miss : maps st.words f i ≡ false → Dropping st f (i + 1) sv
  unfolding dropped_word dropped_wired dirty_at
  dropping_miss e = record {
    words = swept_at _ _ _ (2 * i + 1 + 1) (2 * (i + 1)) sv.words (omega arith)
        (swept_keep _ _ _ (2 * i + 1) sv.words (swept_keep _ _ _ (2 * i) sv.words now_is.words (keep (2 * i) (omega arith))) (keep (2 * i + 1) (omega arith)));
    wired = swept_keep _ _ _ i sv.wired now_is.wired (cond-false (maps st.words f i) false (get_or st.wired i false) e);
    marks = now_is.marks ∙ ap (λ t. set st.marks f (get_or st.marks f false || t)) (sym (any_dirty_more st.words f i ∙ ap (λ t. (t && changed (get_or st.words (2 * i + 1) 0)) || any_dirty st.words f i) e));
    next = now_is.next;
  }
    where
      keep : (k : ℕ) → k / 2 ≡ i → cond (maps st.words f (k / 2)) 0 (get_or st.words k 0) ≡ get_or st.words k 0
      keep k h = cond-false (maps st.words f (k / 2)) 0 (get_or st.words k 0) (ap (maps st.words f) h ∙ e)

  dropping_hit : length st.words ≡ 16384 → length st.wired ≡ 8192 → i < 8192 → maps st.words f i ≡ true → Dropping st f (i + 1) (emptied sv i)
  unfolding dropped_word dropped_wired dirty_at emptied
  dropping_hit nw nd b e = record {
    words = swept_at _ _ _ (2 * i + 1 + 1) (2 * (i + 1)) _ (omega arith)
        (swept_write _ _ _ (2 * i + 1) _ (swept_write _ _ _ (2 * i) sv.words now_is.words 0 (omega arith) (zero_at (2 * i) (omega arith))) 0 (omega arith) (zero_at (2 * i + 1) (omega arith)));
    wired = swept_write _ _ _ i sv.wired now_is.wired false (omega arith) (sym (cond-true (maps st.words f i) false (get_or st.wired i false) e));
    marks = cond_both (changed v) (set sv.marks (frame_of v) true) sv.marks (λ l. l ≡ set st.marks f (get_or st.marks f false || any_dirty st.words f (i + 1)))
        (λ t. ap (λ n. set sv.marks n true) frame ∙ ap (λ l. set l f true) now_is.marks ∙ set-set st.marks f _ true
        ∙ ap (set st.marks f) (or_true (get_or st.marks f false) (any_dirty st.words f i) ∙ ap (λ c. get_or st.marks f false || (c || any_dirty st.words f i)) (sym (dirty t)) ∙ ap (λ c. get_or st.marks f false || c) (sym (any_dirty_more st.words f i))))
        (λ t. now_is.marks ∙ ap (λ c. set st.marks f (get_or st.marks f false || c)) (sym (any_dirty_more st.words f i ∙ ap (λ c. c || any_dirty st.words f i) (dirty t))));
    next = now_is.next;
  }
    where
      zero_at : (k : ℕ) → k / 2 ≡ i → 0 ≡ cond (maps st.words f (k / 2)) 0 (get_or st.words k 0)
      zero_at k h = sym (cond-true (maps st.words f (k / 2)) 0 (get_or st.words k 0) (ap (maps st.words f) h ∙ e))

      v : ℕ
      v = second sv i

      frame : frame_of v ≡ f
      frame = maps_frame sv.words f i (maps_now ∙ e)

      dirty : {c : Bool} → changed v ≡ c → dirty_at st.words f i ≡ c
      dirty t = ap (λ x. x && changed (get_or st.words (2 * i + 1) 0)) e ∙ ap changed (sym second_same) ∙ t

  pub dropping_more : length st.words ≡ 16384 → length st.wired ≡ 8192 → i < 8192 → Dropping st f (i + 1) (drop_at sv f i)
  dropping_more nw nd b = cond_both (maps sv.words f i) (emptied sv i) sv (Dropping st f (i + 1))
      (λ e. dropping_hit nw nd b (sym maps_now ∙ e))
      (λ e. dropping_miss (sym maps_now ∙ e))

pub dropping_all : (st : State) (f i : ℕ) (sv : State) → Dropping st f i sv → length st.words ≡ 16384 → length st.wired ≡ 8192 → 8192 ≤ i → i ≤ 8192 → sv ≡ dropped st f
unfolding dropped modified_in
dropping_all st f i sv d nw nd h le =
    let w = swept_all _ _ _ 16384 (2 * i) sv.words d.words nw (omega arith) in
    let p = swept_all _ _ _ 8192 i sv.wired d.wired nd h in
    let full : i ≡ 8192 = omega arith in
    let m = d.marks ∙ ap (λ n. set st.marks f (get_or st.marks f false || any_dirty st.words f n)) full in
    same_state sv (dropped st f) w m p d.next

-- ---- clear-modified
pub record Cleaning (st : State) (f i : ℕ) (sv : State) : Type 0 where
  pub words : Swept (clean_word st.words f) 0 st.words (2 * i) sv.words
  pub marks : sv.marks ≡ st.marks
  pub wired : sv.wired ≡ st.wired
  pub next : sv.next ≡ st.next

pub cleaning_none : (st : State) (f : ℕ) → Cleaning st f 0 st
cleaning_none st f = record { words = swept_none _ _ _; marks = refl; wired = refl; next = refl }

module _ (st : State) (f i : ℕ) (sv : State) (now_is : Cleaning st f i sv) where
  clean_second : get_or sv.words (2 * i + 1) 0 ≡ get_or st.words (2 * i + 1) 0
  clean_second = now_is.words.rest (2 * i + 1) (omega arith)

  clean_now : maps sv.words f i ≡ maps st.words f i
  clean_now = maps_same sv.words st.words f i (now_is.words.rest (2 * i) (omega arith)) clean_second

  keep_even : clean_word st.words f (2 * i) ≡ get_or st.words (2 * i) 0
  unfolding clean_word
  keep_even = cond-false _ _ _ (ap (λ t. maps st.words f (2 * i / 2) && t) (ne_eqb (2 * i % 2) 1 (omega arith)) ∙ and_off (maps st.words f (2 * i / 2)))
    where
      and_off : (b : Bool) → (b && false) ≡ false
      and_off true = refl
      and_off false = refl

  odd_is : (b : Bool) → maps st.words f i ≡ b → (maps st.words f ((2 * i + 1) / 2) && eqb ((2 * i + 1) % 2) 1) ≡ b
  odd_is b e =
      let h : (2 * i + 1) / 2 ≡ i = omega arith in
      ap (λ t. maps st.words f ((2 * i + 1) / 2) && t) (eq-eqb ((2 * i + 1) % 2) 1 (omega arith)) ∙ and_on _ ∙ ap (maps st.words f) h ∙ e
    where
      and_on : (c : Bool) → (c && true) ≡ c
      and_on true = refl
      and_on false = refl

  cleaning_miss : maps st.words f i ≡ false → Cleaning st f (i + 1) sv
  unfolding clean_word
  cleaning_miss e = record {
    words = swept_at _ _ _ (2 * i + 1 + 1) (2 * (i + 1)) sv.words (omega arith)
        (swept_keep _ _ _ (2 * i + 1) sv.words (swept_keep _ _ _ (2 * i) sv.words now_is.words keep_even) (cond-false _ _ _ (odd_is false e)));
    marks = now_is.marks;
    wired = now_is.wired;
    next = now_is.next;
  }

  cleaning_hit : length st.words ≡ 16384 → i < 8192 → maps st.words f i ≡ true → Cleaning st f (i + 1) (reworded sv i (cleaned (second sv i)))
  unfolding clean_word
  cleaning_hit nw b e = record {
    words = swept_at _ _ _ (2 * i + 1 + 1) (2 * (i + 1)) _ (omega arith)
        (swept_write _ _ _ (2 * i + 1) _ (swept_keep _ _ _ (2 * i) sv.words now_is.words keep_even) (cleaned (second sv i)) (omega arith)
        (ap cleaned clean_second ∙ sym (cond-true _ _ _ (odd_is true e))));
    marks = now_is.marks;
    wired = now_is.wired;
    next = now_is.next;
  }

  pub cleaning_more : length st.words ≡ 16384 → i < 8192 → Cleaning st f (i + 1) (clean_at sv f i)
  cleaning_more nw b = cond_both (maps sv.words f i) (reworded sv i (cleaned (second sv i))) sv (Cleaning st f (i + 1))
      (λ e. cleaning_hit nw b (sym clean_now ∙ e))
      (λ e. cleaning_miss (sym clean_now ∙ e))

pub cleaning_all : (st : State) (f i : ℕ) (sv : State) → Cleaning st f i sv → length st.words ≡ 16384 → 8192 ≤ i →
    record { words = sv.words; marks = set sv.marks f false; wired = sv.wired; next = sv.next } ≡ unmarked st f
unfolding unmarked
cleaning_all st f i sv d nw h =
    let w = swept_all _ _ _ 16384 (2 * i) sv.words d.words nw (omega arith) in
    same_state _ (unmarked st f) w (ap (λ l. set l f false) d.marks) d.wired d.next

-- Loops over the words: each comes to its end at the state that a definition gives by position.
use Rattle.std.proofs.Common.{◌≡◌, ℕ, ◌+◌, ◌-◌, ◌++◌, take, drop, ◌<◌, ◌≤◌, Bool, true, false, cond, ◌&&◌, ◌||◌, eqb, ltb, List, map, length, get_or, set, Decides, sym, refl, ap, ◌∙◌, ⊎_elim, arith}
use Rattle.std.specs.List.{range_with_len}
use Rattle.std.proofs.lemmas.Bool.{cases_eq, cases_lt, cond-true, cond-false, lt-ltb, le-ltb, ltb-true, and_parts, and_from, and_left, and_right, both_ways, false_from_ne_true, eq-eqb, ne_eqb, or_cases, or_left, or_right}
use Rattle.std.proofs.lemmas.Bool.Decides.{same_from_decides, Decides-below_or}
use Rattle.std.proofs.lemmas.List.FromFn.{fill_by_all, get_or-map-range_with_len, length-map-range_with_len}
use Rattle.std.proofs.lemmas.List.{get_or-set_other, get_or_past}
use Rattle.std.proofs.lemmas.Grind.{get_or-set_at}
use borrow.Rule.Slice.PartMut.{put_mid}
use Rattle.std.proofs.lemmas.List.{get_or_append_left, get_or-append_right, get_or-take, get_or-drop, length-take-le, length-append, length-drop}
use Rattle.std.proofs.Math.Bool.{or_assoc, or-false, and-true}
use Rattle.x86_words.specs.Words.{frame_of, dirty, dirty_in}
use Rattle.x86_words.specs.State.{State, word_at, forgotten, any_dirty, emptied, marks_off, wiped, started}

pub same_state : {a b : List ℕ} {c d : List Bool} {x y : ℕ} → a ≡ b → c ≡ d → x ≡ y → ◌≡◌ {A = State} (record { words = a; marks = c; next = x }) (record { words = b; marks = d; next = y })
same_state p q r = cc

pub frame_low_is : (w : ℕ) → frame_of w < 256
unfolding frame_of
frame_low_is w = omega arith

-- a part of the words as a loop has it that has changed those before its i-th
pub record Changing (before part : List ℕ) (change : ℕ → ℕ) (i : ℕ) : Type 0 where
  pub done : (k : ℕ) → k < i → get_or part k 0 ≡ change (get_or before k 0)
  pub rest : (k : ℕ) → i ≤ k → get_or part k 0 ≡ get_or before k 0

module _ (before : List ℕ) (change : ℕ → ℕ) where
  pub changing_none : Changing before before change 0
  changing_none = record { done = λ k h. absurd (omega arith); rest = λ k h. refl }

  pub changing_more : (part now : List ℕ) (i v : ℕ) → Changing before part change i → i < length part → v ≡ change (get_or part i 0) → now ≡ set part i v → Changing before now change (i + 1)
  changing_more part now i v c h e to = rw (to, e) (record {
    done = λ k lt. ⊎_elim
        (λ (q : k ≡ i). get_or-set_at part i k _ 0 q h ∙ ap change (c.rest i (omega arith) ∙ ap (λ j. get_or before j 0) (sym q)))
        (λ (q : k ≡ i → ⊥). get_or-set_other part i k _ 0 q ∙ c.done k (omega arith))
        (cases_eq k i);
    rest = λ k le. get_or-set_other part i k _ 0 (omega arith) ∙ c.rest k (omega arith);
  })

-- the n words from a on, all of them changed and put back
module _ (words part : List ℕ) (a n : ℕ) (change after : ℕ → ℕ) (size : length words ≡ 8192) (inside : a + n ≤ 8192) (whole : length part ≡ n) where
  pub changing_all : (i : ℕ) → n ≤ i → Changing (take n (drop a words)) part change i
      → ((k : ℕ) → k < a → after k ≡ get_or words k 0)
      → ((k : ℕ) → a ≤ k → k < a + n → after k ≡ change (get_or words k 0))
      → ((k : ℕ) → a + n ≤ k → k < 8192 → after k ≡ get_or words k 0)
      → put_mid a n words part ≡ map after (range_with_len 0 8192)
  changing_all i passed c low here high = fill_by_all after (put_mid a n words part) 8192 0 sized (λ k h. ⊎_elim
      (λ (lt : k < a). get_or_append_left (take a words) (part ++ post) 0 k (omega (arith, front)) ∙ get_or-take a words k 0 lt ∙ sym (low k lt))
      (λ (le : a ≤ k). get_or-append_right (take a words) (part ++ post) a k 0 front le ∙ ⊎_elim
      (λ (lt : k < a + n). get_or_append_left part post 0 (k - a) (omega arith) ∙ c.done (k - a) (omega arith)
      ∙ ap change (get_or-take n (drop a words) (k - a) 0 (omega arith) ∙ get_or-drop a words (k - a) 0 ∙ ap (λ j. get_or words j 0) (omega arith)) ∙ sym (here k le lt))
      (λ (past : a + n ≤ k). get_or-append_right part post n (k - a) 0 whole (omega arith) ∙ get_or-drop n (drop a words) (k - a - n) 0 ∙ get_or-drop a words (n + (k - a - n)) 0
      ∙ ap (λ j. get_or words j 0) (omega arith) ∙ sym (high k past h))
      (cases_lt k (a + n)))
      (cases_lt k a))
    where
      post : List ℕ
      post = drop n (drop a words)

      front : length (take a words) ≡ a
      front = length-take-le a words (omega arith)

      sized : length (put_mid a n words part) ≡ 8192
      sized = omega (arith, front, length-append (take a words) (part ++ post), length-append part post, length-drop n (drop a words), length-drop a words)

-- `any_dirty` in words: some position below n
pub any_dirty_is : (words : List ℕ) (chosen : ℕ → Bool) (f n : ℕ) → Decides (any_dirty words chosen f n) ((k : ℕ) × (k < n) × ((chosen k && dirty_in (get_or words k 0) f) ≡ true))
unfolding any_dirty
any_dirty_is words chosen f n =
    Decides-below_or (λ k. chosen k && dirty_in (get_or words k 0) f) (λ k. (chosen k && dirty_in (get_or words k 0) f) ≡ true) (any_dirty words chosen f) (λ k. ((λ e. e), (λ e. e))) refl (λ _. refl) n

-- the positions of a set that lie below i
abbrev pub up_to : ℕ → (ℕ → Bool) → ℕ → Bool
up_to i gone k = ltb k i && gone k

-- u is st with the positions of a set emptied, their dirty bits merged
pub record Emptying (st u : State) (gone : ℕ → Bool) : Type 0 where
  pub words : (k : ℕ) → word_at u k ≡ cond (gone k) 0 (word_at st k)
  pub marks : (f : ℕ) → f < 256 → get_or u.marks f false ≡ (get_or st.marks f false || any_dirty st.words gone f 8192)
  pub next : u.next ≡ st.next

-- sets that agree
pub any_same : (words : List ℕ) (p q : ℕ → Bool) (f n : ℕ) → ((k : ℕ) → p k ≡ q k) → any_dirty words p f n ≡ any_dirty words q f n
any_same words p q f n same = same_from_decides (any_dirty words p f n) (any_dirty words q f n) (any_dirty_is words p f n) (
  (λ e. let x = (any_dirty_is words q f n).0 e in (x.0, x.1, ap (λ b. b && dirty_in (get_or words x.0 0) f) (same x.0) ∙ x.2)),
  (λ x. (any_dirty_is words q f n).1 (x.0, x.1, ap (λ b. b && dirty_in (get_or words x.0 0) f) (sym (same x.0)) ∙ x.2)),
)

pub emptying_same : (st u : State) (p q : ℕ → Bool) → ((k : ℕ) → p k ≡ q k) → Emptying st u p → Emptying st u q
emptying_same st u p q same e = record {
  words = λ k. e.words k ∙ ap (λ b. cond b 0 (word_at st k)) (same k);
  marks = λ f h. e.marks f h ∙ ap (λ b. get_or st.marks f false || b) (any_same st.words p q f 8192 same);
  next = e.next;
}

pub any_none : (words : List ℕ) (p : ℕ → Bool) (f n : ℕ) → ((k : ℕ) → k < n → p k ≡ false) → any_dirty words p f n ≡ false
any_none words p f n none = false_from_ne_true (any_dirty words p f n) (λ e.
    let x = (any_dirty_is words p f n).0 e in both_ways (p x.0) (none x.0 x.1) (and_parts (p x.0) _ x.2).0)

pub emptying_none : (st : State) (p : ℕ → Bool) → ((k : ℕ) → p k ≡ false) → Emptying st st p
emptying_none st p none = record {
  words = λ k. sym (cond-false (p k) 0 (word_at st k) (none k));
  marks = λ f h. sym (ap (λ b. get_or st.marks f false || b) (any_none st.words p f 8192 (λ k _. none k)) ∙ or-false (get_or st.marks f false));
  next = refl;
}

-- the set one position on: that position apart, it is the same
module _ (gone : ℕ → Bool) (i : ℕ) where
  pub up_to_here : gone i ≡ true → up_to (i + 1) gone i ≡ true
  up_to_here e = and_from (ltb i (i + 1)) (gone i) (lt-ltb i (i + 1) (omega arith)) e

  pub up_to_not_yet : up_to i gone i ≡ false
  up_to_not_yet = and_left (ltb i i) (gone i) (le-ltb i i (omega arith))

  pub up_to_other : (k : ℕ) → (k ≡ i → ⊥) → up_to (i + 1) gone k ≡ up_to i gone k
  up_to_other k ne = ap (λ b. b && gone k) (⊎_elim
      (λ (lt : k < i). lt-ltb k (i + 1) (omega arith) ∙ sym (lt-ltb k i lt))
      (λ (le : i ≤ k). le-ltb k (i + 1) (omega arith) ∙ sym (le-ltb k i le))
      (cases_lt k i))

  pub up_to_skip : gone i ≡ false → (k : ℕ) → up_to i gone k ≡ up_to (i + 1) gone k
  up_to_skip e k = ⊎_elim
      (λ (q : k ≡ i). and_right (ltb k i) (gone k) (ap gone q ∙ e) ∙ sym (and_right (ltb k (i + 1)) (gone k) (ap gone q ∙ e)))
      (λ (q : k ≡ i → ⊥). sym (up_to_other k q))
      (cases_eq k i)

any_more : (words : List ℕ) (gone : ℕ → Bool) (f i : ℕ) → i < 8192 → gone i ≡ true
    → any_dirty words (up_to (i + 1) gone) f 8192 ≡ (any_dirty words (up_to i gone) f 8192 || dirty_in (get_or words i 0) f)
any_more words gone f i h e = same_from_decides (any_dirty words (up_to (i + 1) gone) f 8192) (any_dirty words (up_to i gone) f 8192 || d)
    (any_dirty_is words (up_to (i + 1) gone) f 8192) (
      (λ t. ⊎_elim
          (λ (a : any_dirty words (up_to i gone) f 8192 ≡ true). let x = (any_dirty_is words (up_to i gone) f 8192).0 a in
          (x.0, x.1, ap (λ b. b && dirty_in (get_or words x.0 0) f) (up_to_other gone i x.0 (apart x.0 (and_parts (up_to i gone x.0) _ x.2).0)) ∙ x.2))
          (λ (a : d ≡ true). (i, h, and_from (up_to (i + 1) gone i) d (up_to_here gone i e) a))
          (or_cases (any_dirty words (up_to i gone) f 8192) d t)),
      (λ x. ⊎_elim
          (λ (q : x.0 ≡ i). or_right (any_dirty words (up_to i gone) f 8192) d (ap (λ k. dirty_in (get_or words k 0) f) (sym q) ∙ (and_parts (up_to (i + 1) gone x.0) _ x.2).1))
          (λ (q : x.0 ≡ i → ⊥). or_left (any_dirty words (up_to i gone) f 8192) d ((any_dirty_is words (up_to i gone) f 8192).1 (x.0, x.1, ap (λ b. b && dirty_in (get_or words x.0 0) f) (sym (up_to_other gone i x.0 q)) ∙ x.2)))
          (cases_eq x.0 i)),
    )
  where
    d : Bool
    d = dirty_in (get_or words i 0) f

    apart : (k : ℕ) → up_to i gone k ≡ true → k ≡ i → ⊥
    apart k t q = let lt = ltb-true k i (and_parts (ltb k i) (gone k) t).0 in omega arith

module _ (st u : State) (gone : ℕ → Bool) (i : ℕ) (e : Emptying st u (up_to i gone)) where
  pub emptying_miss : gone i ≡ false → Emptying st u (up_to (i + 1) gone)
  emptying_miss g = emptying_same st u (up_to i gone) (up_to (i + 1) gone) (up_to_skip gone i g) e

  -- the word that the loop has come to is still as it was
  pub emptying_here : word_at u i ≡ word_at st i
  emptying_here = e.words i ∙ cond-false _ 0 (word_at st i) (up_to_not_yet gone i)

  pub emptying_hit : i < 8192 → length u.words ≡ 8192 → length u.marks ≡ 256 → gone i ≡ true → Emptying st (forgotten u i) (up_to (i + 1) gone)
  emptying_hit h n m g = record {
    words = λ k. ⊎_elim
        (λ (q : k ≡ i). get_or-set_at u.words i k 0 0 q (omega arith) ∙ sym (cond-true (up_to (i + 1) gone k) 0 (word_at st k) (ap (up_to (i + 1) gone) q ∙ up_to_here gone i g)))
        (λ (q : k ≡ i → ⊥). get_or-set_other u.words i k 0 0 q ∙ e.words k ∙ ap (λ b. cond b 0 (word_at st k)) (sym (up_to_other gone i k q)))
        (cases_eq k i);
    marks = λ f lt. ⊎_elim
        (λ (q : f ≡ F). get_or-set_at u.marks F f _ false q (omega (arith, frame_low_is w)) ∙ ap (λ g. get_or u.marks g false || dirty w) (sym q) ∙ joined f lt
        (sym (ap (λ b. dirty w && b) (eq-eqb F f (sym q)) ∙ and-true (dirty w))))
        (λ (q : f ≡ F → ⊥). get_or-set_other u.marks F f _ false q ∙ sym (or-false (get_or u.marks f false)) ∙ joined f lt
        (sym (and_right (dirty w) (eqb F f) (ne_eqb F f (λ t. q (sym t))))))
        (cases_eq f F);
    next = e.next;
  }
    where
      w : ℕ
      w = word_at u i

      F : ℕ
      F = frame_of w

      joined : (f : ℕ) → f < 256 → {b : Bool} → b ≡ dirty_in w f → (get_or u.marks f false || b) ≡ (get_or st.marks f false || any_dirty st.words (up_to (i + 1) gone) f 8192)
      joined f lt {b} t =
          ap (λ a. a || b) (e.marks f lt) ∙ or_assoc (get_or st.marks f false) (any_dirty st.words (up_to i gone) f 8192) b
          ∙ ap (λ c. get_or st.marks f false || c)
          (ap (λ c. any_dirty st.words (up_to i gone) f 8192 || c) (t ∙ ap (λ v. dirty_in v f) emptying_here) ∙ sym (any_more st.words gone f i h g))

-- the whole of a set is emptied once the loop has passed every position of it
pub emptying_all : (st u : State) (gone : ℕ → Bool) → length u.words ≡ 8192 → length u.marks ≡ 256 → Emptying st u gone → u ≡ emptied st gone
unfolding emptied
emptying_all st u gone n m e = same_state
    (fill_by_all (λ k. cond (gone k) 0 (word_at st k)) u.words 8192 0 n (λ k h. e.words k))
    (fill_by_all (λ f. get_or st.marks f false || any_dirty st.words gone f 8192) u.marks 256 false m (λ f h. e.marks f h))
    e.next

-- the set below a bound is empty, or all of the set
module _ (gone : ℕ → Bool) (i : ℕ) where
  pub up_to_none : ((k : ℕ) → k < i → gone k ≡ false) → (k : ℕ) → up_to i gone k ≡ false
  up_to_none none k = ⊎_elim
      (λ (lt : k < i). and_right (ltb k i) (gone k) (none k lt))
      (λ (le : i ≤ k). and_left (ltb k i) (gone k) (le-ltb k i le))
      (cases_lt k i)

  pub up_to_all : ((k : ℕ) → i ≤ k → gone k ≡ false) → (k : ℕ) → up_to i gone k ≡ gone k
  up_to_all none k = ⊎_elim
      (λ (lt : k < i). ap (λ b. b && gone k) (lt-ltb k i lt))
      (λ (le : i ≤ k). and_left (ltb k i) (gone k) (le-ltb k i le) ∙ sym (none k le))
      (cases_lt k i)

-- a turn of a loop that empties the word or leaves it, by a test
pub emptying_step : (st u v : State) (gone : ℕ → Bool) (i : ℕ) (b : Bool) → Emptying st u (up_to i gone)
    → i < 8192 → length u.words ≡ 8192 → length u.marks ≡ 256 → gone i ≡ b → v ≡ cond b (forgotten u i) u → Emptying st v (up_to (i + 1) gone)
emptying_step st u v gone i true e h n m g q = rw q (emptying_hit st u gone i e h n m g)
emptying_step st u v gone i false e h n m g q = rw q (emptying_miss st u gone i e g)

-- the words, the marks and the counter of a cleared board, written one after the other
pub starts : (st u v : State) → u ≡ wiped st → v ≡ marks_off u → ◌≡◌ {A = State} (record { words = v.words; marks = v.marks; next = 6 }) started
unfolding wiped marks_off started
starts st u v p q = rw (q, p)

-- the emptied state, position by position
module _ (st : State) (gone : ℕ → Bool) (n : length st.words ≡ 8192) where
  pub emptied_emptying : Emptying st (emptied st gone) gone
  unfolding emptied
  emptied_emptying = record {
    words = λ k. ⊎_elim
        (λ (lt : k < 8192). get_or-map-range_with_len (λ j. cond (gone j) 0 (word_at st j)) 0 8192 k k 0 lt (omega arith))
        (λ (le : 8192 ≤ k). get_or_past (map (λ j. cond (gone j) 0 (word_at st j)) (range_with_len 0 8192)) k 0 (omega (arith, length-map-range_with_len (λ j. cond (gone j) 0 (word_at st j)) 0 8192)) ∙ sym (both_zero (gone k) (get_or_past st.words k 0 (omega arith))))
        (cases_lt k 8192);
    marks = λ f h. get_or-map-range_with_len (λ g. get_or st.marks g false || any_dirty st.words gone g 8192) 0 256 f f false h (omega arith);
    next = refl;
  }
    where
      both_zero : (b : Bool) {w : ℕ} → w ≡ 0 → cond b 0 w ≡ 0
      both_zero true e = refl
      both_zero false e = e

  pub emptied_words : length (emptied st gone).words ≡ 8192
  unfolding emptied
  emptied_words = length-map-range_with_len (λ j. cond (gone j) 0 (word_at st j)) 0 8192

  pub emptied_marks : length (emptied st gone).marks ≡ 256
  unfolding emptied
  emptied_marks = length-map-range_with_len (λ g. get_or st.marks g false || any_dirty st.words gone g 8192) 0 256

-- one position is emptied
pub forgotten_emptying : (st : State) (k : ℕ) → length st.words ≡ 8192 → length st.marks ≡ 256 → k < 8192 → Emptying st (forgotten st k) (λ j. eqb j k)
forgotten_emptying st k n m h =
    emptying_same st (forgotten st k) (up_to (k + 1) gone) gone (up_to_all gone (k + 1) (λ j le. ne_eqb j k (omega arith)))
    (emptying_hit st st gone k (emptying_none st (up_to k gone) (up_to_none gone k (λ j lt. ne_eqb j k (omega arith)))) h n m (eq-eqb k k refl))
  where
    gone : ℕ → Bool
    gone j = eqb j k

-- the words that a call rewrites, position by position
pub rewritten_word : (after : ℕ → ℕ) (k : ℕ) → k < 8192 → get_or (map after (range_with_len 0 8192)) k 0 ≡ after k
rewritten_word after k h = get_or-map-range_with_len after 0 8192 k k 0 h (omega arith)

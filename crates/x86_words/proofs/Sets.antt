-- The sets of positions that the loops go over, and the searches in them.
use Rattle.std.proofs.Common.{◌≡◌, ℕ, zero, suc, ◌+◌, ◌-◌, ◌*◌, ◌/◌, ◌<◌, ◌≤◌, Bool, true, false, cond, ◌&&◌, ltb, leb, List, map, length, get_or, take, drop, ◌||◌, Decides, sym, refl, ap, ◌∙◌, ⊎_elim, add-one, map-id, arith}
use Rattle.std.proofs.Math.Nat.{add-suc}
use Rattle.std.proofs.Math.Bool.{or_comm}
use Rattle.std.proofs.lemmas.Bool.{cond-true, cond-false, and_left, and_from, le-leb, lt-leb, lt-ltb, le-ltb, ne_eqb, eq-eqb, cases_lt}
use Rattle.std.specs.List.{list_any, count_by, range_with_len}
use Rattle.std.proofs.lemmas.List.FromFn.{sum_by-map-range_with_len_more}
use Rattle.std.proofs.lemmas.List.Folds.{list_any_more}
use Rattle.std.proofs.lemmas.Bool.Decides.{Decides-below_or}
use Rattle.std.proofs.lemmas.List.{get_or_past, get_or-drop, take_all, length-drop}
use Rattle.pmap.specs.Tally.{tally}
use Rattle.slots.proofs.Tally.{tally_zero}
use Rattle.x86_words.specs.Words.{is_on, wired, maps, dirty_in, points_to, cleaned}
use Rattle.x86_words.specs.State.{State, word_at, any_dirty, is_directory, mapping, in_leaf, any_wired, holds_wired, leaf_after, free_from, unlinked_word, unmarked_word}
use Rattle.x86_words.proofs.Sweeps.{any_none, Changing, changing_all}
use borrow.Rule.Slice.PartMut.{put_mid}

past_zero : (st : State) (k : ℕ) → length st.words ≡ 8192 → 8192 ≤ k → word_at st k ≡ 0
past_zero st k n h = get_or_past st.words k 0 (omega arith)

-- the words that map a frame
module _ (st : State) (f : ℕ) where
  pub mapping_low : (k : ℕ) → k < 3072 → mapping st f k ≡ false
  mapping_low k h = and_left (leb 3072 k) _ (lt-leb 3072 k h)

  pub mapping_here : (i w : ℕ) → 3072 ≤ i → w ≡ word_at st i → mapping st f i ≡ maps w f
  mapping_here i w h e = ap (λ b. b && maps (word_at st i) f) (le-leb 3072 i h) ∙ ap (λ v. maps v f) (sym e)

  pub mapping_past : length st.words ≡ 8192 → (k : ℕ) → 8192 ≤ k → mapping st f k ≡ false
  unfolding is_on
  mapping_past n k h = ap (λ b. b && maps (word_at st k) f) (le-leb 3072 k (omega arith)) ∙ ap (λ v. maps v f) (past_zero st k n h)

  pub unmarked_low : (k : ℕ) → k < 3072 → unmarked_word st f k ≡ word_at st k
  unmarked_low k h = cond-false (mapping st f k) _ _ (mapping_low k h)

  pub unmarked_here : (i w : ℕ) → 3072 ≤ i → w ≡ word_at st i → unmarked_word st f i ≡ cond (maps w f) (cleaned w) (word_at st i)
  unmarked_here i w h e = ap (λ b. cond b (cleaned (word_at st i)) (word_at st i)) (mapping_here i w h e) ∙ ap (λ v. cond (maps w f) (cleaned v) (word_at st i)) (sym e)

  -- the leaves, each of their words changed and put back
  pub unmarked_all : (ws part : List ℕ) (i : ℕ) → ws ≡ st.words → length ws ≡ 8192 → length part ≡ length ws - 3072 → length ws - 3072 ≤ i
      → Changing (take (length ws - 3072) (drop 3072 ws)) part (λ w. cond (maps w f) (cleaned w) w) i
      → put_mid 3072 (length ws - 3072) ws part ≡ map (unmarked_word st f) (range_with_len 0 8192)
  unmarked_all ws part i e size whole passed c =
      changing_all ws part 3072 (length ws - 3072) (λ w. cond (maps w f) (cleaned w) w) (unmarked_word st f) size (omega arith) whole i passed c
      (λ k lt. unmarked_low k lt ∙ sym (same k))
      (λ k le lt. unmarked_here k (get_or ws k 0) le (same k) ∙ ap (cond (maps (get_or ws k 0) f) (cleaned (get_or ws k 0))) (sym (same k)))
      (λ k le lt. absurd (omega arith))
    where
      same : (k : ℕ) → get_or ws k 0 ≡ word_at st k
      same k = ap (λ l. get_or l k 0) e

-- the words of a leaf
pub in_leaf_low : (t k : ℕ) → k < 512 * t → in_leaf t k ≡ false
in_leaf_low t k h = ne_eqb (k / 512) t (omega arith)

pub in_leaf_past : (t k : ℕ) → 512 * t + 512 ≤ k → in_leaf t k ≡ false
in_leaf_past t k h = ne_eqb (k / 512) t (omega arith)

pub in_leaf_here : (t k : ℕ) → 512 * t ≤ k → k < 512 * t + 512 → in_leaf t k ≡ true
in_leaf_here t k h l = eq-eqb (k / 512) t (omega arith)

-- the directory words that point to a leaf
module _ (st : State) (t : ℕ) where
  pub unlinked_low : (k : ℕ) → k < 1024 → unlinked_word st t k ≡ word_at st k
  unlinked_low k h = cond-false _ 0 (word_at st k) (and_left (is_directory k) _ (and_left (leb 1024 k) _ (lt-leb 1024 k h)))

  pub unlinked_here : (i w : ℕ) → 1024 ≤ i → i < 3072 → w ≡ word_at st i → unlinked_word st t i ≡ cond (points_to w t) 0 (word_at st i)
  unlinked_here i w h l e = ap (λ b. cond (b && points_to (word_at st i) t) 0 (word_at st i)) (and_from (leb 1024 i) (ltb i 3072) (le-leb 1024 i h) (lt-ltb i 3072 l)) ∙ ap (λ v. cond (points_to v t) 0 (word_at st i)) (sym e)

  pub unlinked_past : (k : ℕ) → 3072 ≤ k → unlinked_word st t k ≡ word_at st k
  unlinked_past k h = cond-false _ 0 (word_at st k) (and_left (is_directory k) _ (ap (λ b. b && ltb k 3072) (le-leb 1024 k (omega arith)) ∙ le-ltb k 3072 h))

  -- the directories, each of their words changed and put back
  pub unlinked_all : (ws part : List ℕ) (i : ℕ) → ws ≡ st.words → length ws ≡ 8192 → length part ≡ 2048 → 2048 ≤ i
      → Changing (take 2048 (drop 1024 ws)) part (λ w. cond (points_to w t) 0 w) i
      → put_mid 1024 2048 ws part ≡ map (unlinked_word st t) (range_with_len 0 8192)
  unlinked_all ws part i e size whole passed c =
      changing_all ws part 1024 2048 (λ w. cond (points_to w t) 0 w) (unlinked_word st t) size (omega arith) whole i passed c
      (λ k lt. unlinked_low k lt ∙ sym (same k))
      (λ k le lt. unlinked_here k (get_or ws k 0) le (omega arith) (same k) ∙ ap (cond (points_to (get_or ws k 0) t) 0) (sym (same k)))
      (λ k le lt. unlinked_past k (omega arith) ∙ sym (same k))
    where
      same : (k : ℕ) → get_or ws k 0 ≡ word_at st k
      same k = ap (λ l. get_or l k 0) e

-- a search among the n words from a position on, as the code makes it; the words past the end are zero
module _ (test : ℕ → Bool) (zero_fails : test 0 ≡ false) (words : List ℕ) (from : ℕ) (found : ℕ → Bool)
    (none : found 0 ≡ false) (more : (n : ℕ) → found (suc n) ≡ (test (get_or words (from + n) 0) || found n)) where
  searched : (n : ℕ) → list_any test (take n (drop from words)) ≡ found n
  searched zero = sym none
  searched (suc n) = ⊎_elim
      (λ (lt : n < length rest). ap (λ m. list_any test (take m rest)) (sym (add-one n)) ∙ list_any_more test rest n 0 lt ∙ or_comm (list_any test (take n rest)) (test (get_or rest n 0))
      ∙ ap (λ w. test w || list_any test (take n rest)) (get_or-drop from words n 0) ∙ ap (λ b. test (get_or words (from + n) 0) || b) (searched n) ∙ sym (more n))
      (λ (le : length rest ≤ n). ap (list_any test) (take_all (suc n) rest (omega arith) ∙ sym (take_all n rest le)) ∙ searched n
      ∙ sym (more n ∙ ap (λ b. b || found n) (ap test (sym (get_or-drop from words n 0) ∙ get_or_past rest n 0 le) ∙ zero_fails)))
      (cases_lt n (length rest))
    where
      rest : List ℕ
      rest = drop from words

-- a dirty word among the leaves
any_dirty_list : (words : List ℕ) (from f n : ℕ) → list_any (λ w. dirty_in w f) (take n (drop from words)) ≡ any_dirty words (leb from) f (from + n)
unfolding any_dirty is_on
any_dirty_list words from f n = searched (λ w. dirty_in w f) refl words from (λ m. any_dirty words (leb from) f (from + m))
    (any_none words (leb from) f (from + 0) (λ k h. lt-leb from k (omega arith)))
    (λ m. rw (add-suc from m) (ap (λ b. (b && dirty_in (get_or words (from + m) 0) f) || any_dirty words (leb from) f (from + m)) (le-leb from (from + m) (omega arith))))
    n

pub any_dirty_past : (words : List ℕ) (from f n : ℕ) → from + n ≡ length words → list_any (λ w. dirty_in w f) (drop from words) ≡ any_dirty words (leb from) f (from + n)
any_dirty_past words from f n e = ap (list_any (λ w. dirty_in w f)) (sym (take_all n (drop from words) (omega (arith, length-drop from words)))) ∙ any_dirty_list words from f n

-- a wired word in a leaf
module _ (words : List ℕ) (from : ℕ) where
  pub any_wired_is : (n : ℕ) → Decides (any_wired words from n) ((k : ℕ) × (k < n) × (wired (get_or words (from + k) 0) ≡ true))
  unfolding any_wired
  any_wired_is n = Decides-below_or (λ k. wired (get_or words (from + k) 0)) (λ k. wired (get_or words (from + k) 0) ≡ true) (any_wired words from) (λ k. ((λ e. e), (λ e. e))) refl (λ _. refl) n

  any_wired_list : (n : ℕ) → list_any wired (take n (drop from words)) ≡ any_wired words from n
  unfolding any_wired is_on
  any_wired_list = searched wired refl words from (any_wired words from) refl (λ _. refl)

-- the choice of a leaf
pub holds_wired_is : (words : List ℕ) (t : ℕ) {b : Bool} → b ≡ list_any wired (take 512 (drop (512 * t) words)) → holds_wired words t ≡ b
holds_wired_is words t e = sym (e ∙ any_wired_list words (512 * t) 512)

module _ (words : List ℕ) (t : ℕ) where
  pub free_here : (n : ℕ) → holds_wired words t ≡ false → free_from words t n ≡ t
  unfolding free_from
  free_here zero e = refl
  free_here (suc n) e = cond-false (holds_wired words t) _ t e

  pub free_more : (n m : ℕ) → n ≡ m + 1 → holds_wired words t ≡ true → free_from words t n ≡ free_from words (leaf_after t) m
  unfolding free_from
  free_more n m q e = rw (q, add-one m) (cond-true (holds_wired words t) (free_from words (leaf_after t) m) t e)

  pub free_last : (n : ℕ) → n ≡ 0 → free_from words t n ≡ t
  unfolding free_from
  free_last n q = rw q

-- a count over the numbers from a on, as the code makes it
module _ (test : ℕ → Bool) (a : ℕ) where
  counted : (n : ℕ) → count_by test (map (λ k. k) (range_with_len a n)) ≡ tally (λ k. leb a k && test k) (a + n)
  unfolding tally
  counted zero = sym (tally_zero (λ k. leb a k && test k) (a + 0) (λ k h. and_left (leb a k) (test k) (lt-leb a k (omega arith))))
  counted (suc n) =
      ap (λ m. count_by test (map (λ k. k) (range_with_len a m))) (sym (add-one n))
      ∙ sum_by-map-range_with_len_more (λ k. cond (test k) 1 0) (λ k. k) a n (a + n) refl
      ∙ rw (add-suc a n) (omega (arith, counted n, ap {B = ℕ} (λ b. cond (b && test (a + n)) 1 0) (le-leb a (a + n) (omega arith))))

  pub count_by_tally : (n : ℕ) → count_by test (range_with_len a n) ≡ tally (λ k. leb a k && test k) (a + n)
  count_by_tally n = ap (count_by test) (sym (map-id (range_with_len a n))) ∙ counted n

-- A cleared board keeps the facts, and holds nothing.
use Rattle.std.proofs.Common.{◌≡◌, ℕ, ◌+◌, ◌-◌, ◌/◌, ◌<◌, ◌≤◌, true, false, ◌&&◌, eqb, ltb, leb, ◌⊎◌, length, get_or, replicate, None, sym, refl, ap, ◌∙◌, subst, inl, inr, ⊎_elim, arith}
use mathlib.Core.Path.{fun_ext}
use Rattle.std.proofs.lemmas.Bool.{and_parts, and_from, and_left, leb-true, ltb-true, le-leb, lt-ltb, cond-true, cond-false, cases_Bool, cases_lt, ne_eqb, or_from, both_ways}
use Rattle.std.proofs.lemmas.List.{length-replicate, get_or-replicate, get_or_past}
use Rattle.std.proofs.lemmas.List.FromFn.{length-map-range_with_len}
use Rattle.pmap.specs.Meaning.{Cleared}
use Rattle.pmap.specs.Ranges.{fits_place}
use Rattle.x86_words.specs.Words.{pointer, dirty, wired, dirty_in}
use Rattle.x86_words.specs.Walks.{linear}
use Rattle.x86_words.specs.State.{word_at, found, is_leaf, any_dirty, start_word, started}
use Rattle.x86_words.proofs.Sweeps.{rewritten_word, any_dirty_is}
use Rattle.slots.proofs.Tally.{tally_zero}
use Rattle.x86_pmap.specs.Kept.{Kept, Points, wired_leaf}
use Rattle.x86_pmap.specs.Views.{view_of}
use Rattle.x86_pmap.proofs.Fields.{pointer_points, points_some, zero_wired, zero_dirty}
use Rattle.x86_pmap.proofs.Tables.{fits_both, found_nothing}

start_word_is : (k : ℕ) → k < 8192 → word_at started k ≡ start_word k
unfolding started
start_word_is k h = rewritten_word start_word k h

start_entry : (s : ℕ) → s < 4 → start_word (512 + s) ≡ pointer (2 + s)
unfolding start_word
start_entry s h =
    cond-false (eqb (512 + s) 0) _ _ (ne_eqb (512 + s) 0 (omega arith))
    ∙ cond-true (leb 512 (512 + s) && ltb (512 + s) 516) (pointer (512 + s - 512 + 2)) 0 (and_from _ _ (le-leb 512 (512 + s) (omega arith)) (lt-ltb (512 + s) 516 (omega arith)))
    ∙ ap pointer (omega arith)

start_blank : (k : ℕ) → 0 < k → (512 ≤ k → k < 516 → ⊥) → start_word k ≡ 0
unfolding start_word
start_blank k h far =
    cond-false (eqb k 0) _ _ (ne_eqb k 0 (omega arith))
    ∙ ⊎_elim
    (λ (e : (leb 512 k && ltb k 516) ≡ true). let parts = and_parts (leb 512 k) (ltb k 516) e in absurd (far (leb-true 512 k parts.0) (ltb-true k 516 parts.1)))
    (λ (e : (leb 512 k && ltb k 516) ≡ false). cond-false _ _ 0 e)
    (cases_Bool (leb 512 k && ltb k 516))

start_zero : (k : ℕ) → 1024 ≤ k → k < 8192 → word_at started k ≡ 0
start_zero k p h = start_word_is k h ∙ start_blank k (omega arith) (λ a b. omega arith)

start_root : start_word 0 ≡ pointer 1
unfolding start_word
start_root = refl

start_size : length started.words ≡ 8192
unfolding started
start_size = length-map-range_with_len start_word 0 8192

start_marks : started.marks ≡ replicate 256 false
unfolding started
start_marks = refl

start_next : started.next ≡ 6
unfolding started
start_next = refl

pub start_kept : Kept started
start_kept = record {
  size = start_size;
  marked = ap length start_marks ∙ length-replicate 256 false;
  next_low = rw start_next (omega arith);
  next_high = rw start_next (omega arith);
  root = subst (λ w. Points w 1) (sym (start_word_is 0 (omega arith) ∙ start_root)) (pointer_points 1);
  entries = λ s h. subst (λ w. Points w (2 + s)) (sym (start_word_is (512 + s) (omega arith) ∙ start_entry s h)) (pointer_points (2 + s));
  blank = λ k p h far. start_word_is k (omega arith) ∙ start_blank k p far;
  directories = λ k p h. inl (start_zero k p (omega arith));
  single = λ j k t a b c d p q. absurd (points_some _ t p (start_zero j a (omega arith)));
  leaves = λ k p h. inl (start_zero k (omega arith) h);
  few = let none = tally_zero (wired_leaf started) 8192 (λ k h. unwired k h) in omega (arith, none);
}
  where
    unwired : (k : ℕ) → k < 8192 → wired_leaf started k ≡ false
    unwired k h = ⊎_elim
        (λ (l : 3072 ≤ k). ap (λ b. b && wired (word_at started k)) (le-leb 3072 k l) ∙ ap wired (start_zero k (omega arith) h) ∙ zero_wired)
        (λ (l : is_leaf k ≡ false). and_left (is_leaf k) _ l)
        (leaf_or_not k)
      where
        leaf_or_not : (k : ℕ) → (3072 ≤ k) ⊎ (is_leaf k ≡ false)
        leaf_or_not k = ⊎_elim (λ (e : is_leaf k ≡ true). inl (leb-true 3072 k e)) (λ (e : is_leaf k ≡ false). inr e) (cases_Bool (is_leaf k))

pub start_cleared : Cleared (view_of started)
start_cleared = record {
  held = λ a b. ⊎_elim
      (λ (e : fits_place a b ≡ true). let f = fits_both a b e in
      let x = f.0 in
      let y = f.1 in
      cond-true (fits_place a b) (found started a b) None e ∙ found_nothing started start_kept a b (linear a b) (omega arith) refl (start_zero (1024 + linear a b / 512) (omega arith) (omega arith)))
      (λ (e : fits_place a b ≡ false). cond-false (fits_place a b) (found started a b) None e)
      (cases_Bool (fits_place a b));
  marks = fun_ext (λ f. or_from (get_or started.marks f false) (any_dirty started.words is_leaf f 8192) (unmarked f) (clean f));
}
  where
    unmarked : (f : ℕ) → get_or started.marks f false ≡ false
    unmarked f = ap (λ ms. get_or ms f false) start_marks ∙ ⊎_elim
        (λ (l : f < 256). get_or-replicate 256 f false false l)
        (λ (l : 256 ≤ f). get_or_past (replicate 256 false) f false (omega (arith, length-replicate 256 false)))
        (cases_lt f 256)

    clean : (f : ℕ) → any_dirty started.words is_leaf f 8192 ≡ false
    clean f = ⊎_elim
        (λ (e : any_dirty started.words is_leaf f 8192 ≡ true).
        let x = (any_dirty_is started.words is_leaf f 8192).0 e in
        let parts = and_parts (is_leaf x.0) (dirty_in (word_at started x.0) f) x.2 in
        let low = leb-true 3072 x.0 parts.0 in
        absurd (both_ways (dirty (word_at started x.0)) (ap dirty (start_zero x.0 (omega arith) x.1) ∙ zero_dirty) (and_parts (dirty (word_at started x.0)) _ parts.1).0))
        (λ (e : any_dirty started.words is_leaf f 8192 ≡ false). e)
        (cases_Bool (any_dirty started.words is_leaf f 8192))

-- Taking a leaf: all in it is forgotten, the directory word that pointed to it goes, and that of the place points to it.
use Rattle.std.proofs.Common.{◌≡◌, ℕ, ◌+◌, ◌*◌, ◌/◌, ◌%◌, ◌<◌, ◌≤◌, false, cond, length, get_or, Some, None, sym, refl, ap, ◌∙◌, subst, inl, inr, ⊎_elim, arith}
use Rattle.std.proofs.lemmas.Bool.{cond-true, cond-false, cases_eq, cases_lt, eq-eqb, ne_eqb}
use Rattle.std.proofs.lemmas.List.{get_or-set_same, get_or-set_other, length-set}
use Rattle.std.proofs.lemmas.List.FromFn.{length-map-range_with_len}
use Rattle.pmap.specs.Meaning.{Same}
use Rattle.slots.proofs.Shown.{unchanged_same}
use Rattle.x86_words.specs.Words.{present, wired, pointer, points_to}
use Rattle.x86_words.specs.State.{State, word_at, unlinked_word, unlinked, linked}
use Rattle.x86_words.proofs.Sweeps.{rewritten_word}
use Rattle.x86_words.proofs.Sets.{unlinked_low, unlinked_here, unlinked_past}
use Rattle.x86_pmap.specs.Kept.{Kept, Points, Mapped, Owner}
use Rattle.x86_pmap.specs.Views.{view_of}
use Rattle.x86_pmap.proofs.Fields.{points_same, points_some, points_at, pointer_points, zero_points_to, zero_present}
use Rattle.x86_pmap.proofs.Tables.{table, slot_of, slot_in, entry_of, Reaches, page_cases, walk_reaches, slot_nothing, slot_reached, slot_past, table_shows}
use Rattle.x86_pmap.proofs.Keeps.{fewer}
use Rattle.x86_pmap.proofs.Choices.{after_low, after_high}

-- an empty leaf t, and a directory word j that is zero: the words that point to t are emptied, and j comes to point to it
module _ (st : State) (K : Kept st) (t j : ℕ) (low : 6 ≤ t) (high : t ≤ 15) (j_low : 1024 ≤ j) (j_high : j < 3072) (zero_j : word_at st j ≡ 0)
    (bare : (k : ℕ) → k / 512 ≡ t → word_at st k ≡ 0) where
  abbrev after : State
  after = linked (unlinked st t) t j

  unlinked_word_is : (k : ℕ) → k < 8192 → word_at (unlinked st t) k ≡ unlinked_word st t k
  unfolding unlinked
  unlinked_word_is k h = rewritten_word (unlinked_word st t) k h

  unlinked_size : length (unlinked st t).words ≡ 8192
  unfolding unlinked
  unlinked_size = length-map-range_with_len (unlinked_word st t) 0 8192

  unlinked_marks : (unlinked st t).marks ≡ st.marks
  unfolding unlinked
  unlinked_marks = refl

  other_word : (k : ℕ) → k < 8192 → (k ≡ j → ⊥) → word_at after k ≡ unlinked_word st t k
  other_word k h far = get_or-set_other (unlinked st t).words j k (pointer t) 0 far ∙ unlinked_word_is k h

  here_word : word_at after j ≡ pointer t
  here_word = get_or-set_same (unlinked st t).words j (pointer t) 0 (omega (arith, unlinked_size))

  pub here_points : Points (word_at after j) t
  here_points = subst (λ w. Points w t) (sym here_word) (pointer_points t)

  top_word : (k : ℕ) → k < 1024 → word_at after k ≡ word_at st k
  top_word k h = other_word k (omega arith) (omega arith) ∙ unlinked_low st t k h

  pub leaf_word_is : (k : ℕ) → 3072 ≤ k → k < 8192 → word_at after k ≡ word_at st k
  leaf_word_is k p h = other_word k h (omega arith) ∙ unlinked_past st t k p

  -- a directory word that points to another leaf stays
  stays_word : (k u : ℕ) → 1024 ≤ k → k < 3072 → Points (word_at st k) u → (u ≡ t → ⊥) → word_at after k ≡ word_at st k
  stays_word k u p h q far =
      other_word k (omega arith) (λ e. points_some _ u q (ap (word_at st) e ∙ zero_j))
      ∙ unlinked_here st t k (word_at st k) p h refl ∙ cond-false _ 0 (word_at st k) (points_at (word_at st k) u q t ∙ ne_eqb (256 + u) (256 + t) (λ e. far (omega arith)))

  -- one that points to t goes
  goes_word : (k : ℕ) → 1024 ≤ k → k < 3072 → Points (word_at st k) t → word_at after k ≡ 0
  goes_word k p h q =
      other_word k (omega arith) (λ e. points_some _ t q (ap (word_at st) e ∙ zero_j))
      ∙ unlinked_here st t k (word_at st k) p h refl ∙ cond-true _ 0 (word_at st k) (points_at (word_at st k) t q t ∙ eq-eqb (256 + t) (256 + t) refl)

  zero_word : (k : ℕ) → 1024 ≤ k → k < 3072 → (k ≡ j → ⊥) → word_at st k ≡ 0 → word_at after k ≡ 0
  zero_word k p h far z =
      other_word k (omega arith) far ∙ unlinked_here st t k (word_at st k) p h refl ∙ ap (λ w. cond (points_to w t) 0 w) z ∙ cond-false _ 0 0 (zero_points_to t)

  -- what a directory word other than j is
  data After (k : ℕ) : Type 0 where
    gone : word_at after k ≡ 0 → After k
    kept : (u : ℕ) → Points (word_at st k) u → (u ≡ t → ⊥) → 6 ≤ u → u ≤ 15 → word_at after k ≡ word_at st k → After k

  after_cases : (k : ℕ) → 1024 ≤ k → k < 3072 → (k ≡ j → ⊥) → After k
  after_cases k p h far = ⊎_elim
      (λ z. gone (zero_word k p h far z))
      (λ l. ⊎_elim
      (λ (e : l.leaf ≡ t). gone (goes_word k p h (subst (Points (word_at st k)) e l.points)))
      (λ (e : l.leaf ≡ t → ⊥). kept l.leaf l.points e l.low l.high (stays_word k l.leaf p h l.points e))
      (cases_eq l.leaf t))
      (K.directories k p h)

  -- a word other than j that points somewhere is as before, and does not point to t
  after_points : (k u : ℕ) → 1024 ≤ k → k < 3072 → (k ≡ j → ⊥) → Points (word_at after k) u → (Points (word_at st k) u) × (u ≡ t → ⊥)
  after_points k u p h far q = elim (after_cases k p h far) [
    | gone z ↦ absurd (points_some _ u q z)
    | kept v w ne a b e ↦ (let r : Points (word_at st k) u = subst (λ x. Points x u) e q in (r, λ s. ne (points_same _ v u w r ∙ s)))
  ]

  pub relinked_kept : Kept after
  relinked_kept = record {
    size = length-set (unlinked st t).words j (pointer t) ∙ unlinked_size;
    marked = ap length unlinked_marks ∙ K.marked;
    next_low = after_low t low high;
    next_high = after_high t low high;
    root = subst (λ w. Points w 1) (sym (top_word 0 (omega arith))) K.root;
    entries = λ s h. subst (λ w. Points w (2 + s)) (sym (top_word (512 + s) (omega arith))) (K.entries s h);
    blank = λ k p h q. top_word k h ∙ K.blank k p h q;
    directories = λ k p h. ⊎_elim
        (λ (e : k ≡ j). inr (record { leaf = t; low = low; high = high; points = subst (λ i. Points (word_at after i) t) (sym e) here_points }))
        (λ (e : k ≡ j → ⊥). elim (after_cases k p h e) [
          | gone z ↦ inl z
          | kept u w ne a b q ↦ inr (record { leaf = u; low = a; high = b; points = subst (λ x. Points x u) (sym q) w })
        ])
        (cases_eq k j);
    single = single;
    leaves = λ k p h. ⊎_elim
        (λ z. inl (leaf_word_is k p h ∙ z))
        (λ m. inr (subst Mapped (sym (leaf_word_is k p h)) m.0, owner k m.1 (λ e. mapped_not k m.0 (bare k e))))
        (K.leaves k p h);
    few = fewer st after K (λ k p h e. sym (ap wired (leaf_word_is k p h)) ∙ e);
  }
    where
      mapped_not : (k : ℕ) → Mapped (word_at st k) → word_at st k ≡ 0 → ⊥
      mapped_not k m z = omega (arith, m.is, z)

      owner : (k : ℕ) → Owner st (k / 512) → (k / 512 ≡ t → ⊥) → Owner after (k / 512)
      owner k o far = record { at = o.at; low = o.low; high = o.high; points = subst (λ w. Points w (k / 512)) (sym (stays_word o.at (k / 512) o.low o.high o.points far)) o.points }

      single : (i k u : ℕ) → 1024 ≤ i → i < 3072 → 1024 ≤ k → k < 3072 → Points (word_at after i) u → Points (word_at after k) u → i ≡ k
      single i k u a b c d p q = ⊎_elim
          (λ (e : i ≡ j). ⊎_elim
          (λ (f : k ≡ j). e ∙ sym f)
          (λ (f : k ≡ j → ⊥). absurd ((after_points k u c d f q).1 (points_same _ u t (subst (λ x. Points (word_at after x) u) e p) here_points)))
          (cases_eq k j))
          (λ (e : i ≡ j → ⊥). ⊎_elim
          (λ (f : k ≡ j). absurd ((after_points i u a b e p).1 (points_same _ u t (subst (λ x. Points (word_at after x) u) f q) here_points)))
          (λ (f : k ≡ j → ⊥). K.single i k u a b c d (after_points i u a b e p).0 (after_points k u c d f q).0)
          (cases_eq k j))
          (cases_eq i j)

  bare_slot : (n w : ℕ) → w ≡ 0 → slot_in n w ≡ None
  bare_slot n w z = ap (slot_in n) z ∙ cond-false (present 0) (Some (entry_of n 0)) None zero_present

  relinked_slot : (n : ℕ) → slot_of after n ≡ slot_of st n
  relinked_slot n = ⊎_elim
      (λ (h : n < 1048576). ⊎_elim (λ (e : 1024 + n / 512 ≡ j). at_j h e) (λ (e : 1024 + n / 512 ≡ j → ⊥). elsewhere h e) (cases_eq (1024 + n / 512) j))
      (λ (h : 1048576 ≤ n). slot_past after n h ∙ sym (slot_past st n h))
      (cases_lt n 1048576)
    where
      at_j : n < 1048576 → 1024 + n / 512 ≡ j → slot_of after n ≡ slot_of st n
      at_j h e =
          slot_reached after relinked_kept n t (walk_reaches after relinked_kept n h t low high (subst (λ i. Points (word_at after i) t) (sym e) here_points))
          ∙ bare_slot n _ (leaf_word_is (512 * t + n % 512) (omega arith) (omega arith) ∙ bare (512 * t + n % 512) (omega arith))
          ∙ sym (slot_nothing st K n h (ap (word_at st) e ∙ zero_j))

      elsewhere : n < 1048576 → (1024 + n / 512 ≡ j → ⊥) → slot_of after n ≡ slot_of st n
      elsewhere h far = ⊎_elim
          (λ z. slot_nothing after relinked_kept n h (zero_word (1024 + n / 512) (omega arith) (omega arith) far z) ∙ sym (slot_nothing st K n h z))
          (λ r. reach r.0 r.1)
          (page_cases st K n h)
        where
          reach : (u : ℕ) → Reaches st n u → slot_of after n ≡ slot_of st n
          reach u r = ⊎_elim
              (λ (e : u ≡ t). slot_nothing after relinked_kept n h (goes_word (1024 + n / 512) (omega arith) (omega arith) (subst (Points (word_at st (1024 + n / 512))) e r.points))
              ∙ sym (slot_reached st K n u r ∙ bare_slot n _ (bare (512 * u + n % 512) (omega (arith, e)))))
              (λ (e : u ≡ t → ⊥). slot_reached after relinked_kept n u (walk_reaches after relinked_kept n h u r.low r.high (subst (λ w. Points w u) (sym (stays_word (1024 + n / 512) u (omega arith) (omega arith) r.points e)) r.points))
              ∙ ap (slot_in n) (leaf_word_is (512 * u + n % 512) (omega (arith, r.low)) (omega (arith, r.high))) ∙ sym (slot_reached st K n u r))
              (cases_eq u t)

  pub relinked_same : Same (view_of st) (view_of after)
  relinked_same = unchanged_same (table st) (table after) (view_of st) (view_of after) (table_shows st K) (table_shows after relinked_kept)
      (record { slots = relinked_slot; marks = λ f. ap (λ ms. get_or ms f false) unlinked_marks })

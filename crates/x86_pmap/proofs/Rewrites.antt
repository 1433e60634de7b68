-- Lower, unwire and access: the leaf word of a place is rewritten.
use Rattle.std.proofs.Common.{◌≡◌, ℕ, ◌+◌, ◌*◌, ◌/◌, ◌%◌, ◌<◌, Bool, true, false, cond, not, ◌&&◌, ◌||◌, eqb, ◌⊎◌, Some, None, Option, sym, refl, ap, ◌∙◌, subst, inl, inr, ⊎_elim, arith}
use mathlib.Core.Path.{fun_ext}
use Rattle.std.proofs.lemmas.Bool.{and_parts, cond-true, cond-false, both_ways, cases_Bool}
use Rattle.pmap.specs.declared.access.Access.{Access}
use Rattle.pmap.specs.declared.access.Access.TheVariants.{Hit, Miss}
use Rattle.pmap.specs.Meaning.{View, Mapping, Same, Put, PutForgetting, Elsewhere, lowered, Unwired, answered, marked, Accessed}
use Rattle.slots.specs.Slots.{Entry, Shows, Single}
use Rattle.slots.specs.Changes.{Rewritten}
use Rattle.slots.proofs.Shown.{unchanged_same, rewritten_here, rewritten_was, rewritten_others, rewritten_marks, rewritten_same_marks, added}
use Rattle.x86_words.specs.declared.walk.Walk.{Walk}
use Rattle.std.proofs.Math.Bool.{or-false}
use Rattle.x86_words.specs.declared.word.Bit.{Bit}
use Rattle.x86_words.specs.declared.word.Bit.TheVariants.{Writable, Wired}
use Rattle.x86_words.specs.Words.{put_off, present, writable, dirty, wired, frame_of, protection_of, touched, read_only, unwired, hit_word, serves}
use Rattle.x86_words.specs.Walks.{linear, walk}
use Rattle.x86_words.specs.State.{State, word_at, written, rewritten, reached, found_in, rewritten_at, hit, accessed, access_answer}
use Rattle.x86_pmap.specs.Kept.{Kept, Mapped}
use Rattle.x86_pmap.specs.Views.{view_of}
use Rattle.x86_pmap.proofs.Fields.{mapped_touched, mapped_dirtied, mapped_read_only, mapped_unwired, touched_writable, touched_dirty, touched_wired, touched_frame, dirtied_writable, dirtied_dirty, dirtied_wired, dirtied_frame, read_only_writable, read_only_dirty, read_only_wired, read_only_frame, unwired_writable, unwired_dirty, unwired_wired, unwired_frame, zero_present, points_some}
use Rattle.x86_pmap.proofs.Tables.{table, entry_of, met, Reaches, page_cases, walk_nothing, table_shows, table_single}
use Rattle.x86_pmap.proofs.Single.{one_kept, one_fewer, one_rewritten, one_unchanged}
use Rattle.x86_pmap.proofs.Touches.{Touching, touching_more, touch}
use Rattle.x86_pmap.proofs.Places.{page_inside, page_space, page_page, held_reached, held_nothing}

-- the mapping of a leaf word in use
abbrev pub mapping_in : ℕ → Mapping
mapping_in w = (frame_of w, protection_of w, wired w)

-- the leaf word of a place goes from w to z
pub record Reword (v u : View) (s p w z : ℕ) : Type 0 where
  pub was : v.held s p ≡ Some (mapping_in w)
  pub here : u.held s p ≡ Some (mapping_in z)
  pub others : (a b : ℕ) → Elsewhere s p a b → u.held a b ≡ v.held a b
  pub marks : u.modified ≡ added v.modified (dirty z) (frame_of z)
  pub same : dirty z ≡ dirty w → u.modified ≡ v.modified

-- the place holds nothing and nothing changes, or its word is changed
abbrev pub Changed : State → (ℕ → ℕ) → ℕ → ℕ → State → Type 0
Changed st change s p u = Kept u × ((((view_of st).held s p ≡ None) × Same (view_of st) (view_of u)) ⊎ ((w : ℕ) × Reword (view_of st) (view_of u) s p w (change w)))

module _ (s p : ℕ) (x : s < 4) (y : p < 262144) where
  -- the place of a linear page
  at_place : (P : ℕ → ℕ → Type 0) → P (linear s p / 262144) (linear s p % 262144) → P s p
  at_place P h = subst (λ a. P a p) (page_space s p x y) (subst (λ b. P (linear s p / 262144) b) (page_page s p x y) h)

  module _ (st : State) (K : Kept st) where
    pub leaf_reworded : (t z : ℕ) (r : Reaches st (linear s p) t) → Mapped (word_at st (512 * t + linear s p % 512)) → Mapped z → frame_of z ≡ frame_of (word_at st (512 * t + linear s p % 512))
        → (dirty (word_at st (512 * t + linear s p % 512)) ≡ true → dirty z ≡ true) → (wired z ≡ true → wired (word_at st (512 * t + linear s p % 512)) ≡ true)
        → Kept (written st (512 * t + linear s p % 512) z) × Reword (view_of st) (view_of (written st (512 * t + linear s p % 512) z)) s p (word_at st (512 * t + linear s p % 512)) z
    leaf_reworded t z r m m' frame stays wires = (
      L,
      record {
        was = at_place (λ a b. (view_of st).held a b ≡ Some (mapping_in w)) (rewritten_was (table st) (table u) (view_of st) (view_of u) S T one n d e R);
        here = at_place (λ a b. (view_of u).held a b ≡ Some (mapping_in z)) (rewritten_here (table st) (table u) (view_of st) (view_of u) S T one n d e R);
        others = at_place (λ a b. (i j : ℕ) → Elsewhere a b i j → (view_of u).held i j ≡ (view_of st).held i j) (rewritten_others (table st) (table u) (view_of st) (view_of u) S T one n d e R);
        marks = rewritten_marks (table st) (table u) (view_of st) (view_of u) S T one n d e R;
        same = rewritten_same_marks (table st) (table u) (view_of st) (view_of u) S T one n d e R;
      },
    )
      where
        n : ℕ
        n = linear s p

        w : ℕ
        w = word_at st (512 * t + linear s p % 512)

        u : State
        u = written st (512 * t + linear s p % 512) z

        d : Entry
        d = entry_of n w

        e : Entry
        e = entry_of n z

        L : Kept u
        L = one_kept st K n t z r (inr m') (one_fewer st K n t z r wires)

        S : Shows (table st) (view_of st)
        S = table_shows st K

        T : Shows (table u) (view_of u)
        T = table_shows u L

        one : Single (table st)
        one = table_single st K

        R : Rewritten (table st) (table u) n d e
        R = one_rewritten st K n t z r L m m' frame stays

    -- a change that leaves frame and dirty bit
    module _ (change : ℕ → ℕ) (none : change 0 ≡ 0) (mapped : (w : ℕ) → Mapped w → Mapped (change w)) (frame : (w : ℕ) → frame_of (change w) ≡ frame_of w)
        (dirt : (w : ℕ) → dirty (change w) ≡ dirty w) (wires : (w : ℕ) → wired (change w) ≡ true → wired w ≡ true) where
      changed_there : (t : ℕ) → Reaches st (linear s p) t → Changed st change s p (rewritten st (512 * t + linear s p % 512) change)
      changed_there t r = ⊎_elim empty (λ m. inside m.0) (K.leaves k (omega (arith, r.low)) (omega (arith, r.high)))
        where
          k : ℕ
          k = 512 * t + linear s p % 512

          w : ℕ
          w = word_at st k

          u : State
          u = rewritten st k change

          empty : word_at st k ≡ 0 → Changed st change s p u
          empty z =
              let gone : change w ≡ 0 = ap change z ∙ none in
              let L = one_kept st K (linear s p) t (change w) r (inl gone) (one_fewer st K (linear s p) t (change w) r (wires w)) in
              (L, inl (held_reached s p x y st K t r ∙ ap found_in z ∙ cond-false _ _ None zero_present, unchanged_same (table st) (table u) (view_of st) (view_of u) (table_shows st K) (table_shows u L) (one_unchanged st K (linear s p) t (change w) r L z gone)))

          inside : Mapped w → Changed st change s p u
          inside m =
              let both = leaf_reworded t (change w) r m (mapped w m) (frame w) (λ e. dirt w ∙ e) (wires w) in
              (both.0, inr (w, both.1))

      pub changed : Changed st change s p (rewritten_at change st s p)
      changed = ⊎_elim
          (λ z. rw (ap (λ w. reached w st (λ v. rewritten st v.leaf change)) (walk_nothing st K (linear s p) (page_inside s p x y) z))
          (K, inl (held_nothing s p x y st K z, record { held = λ a b. refl; marks = refl })))
          (λ l. rw (ap (λ w. reached w st (λ v. rewritten st v.leaf change)) l.1.walks) (changed_there l.0 l.1))
          (page_cases st K (linear s p) (page_inside s p x y))

zero_off : (b : Bit) → put_off b 0 ≡ 0
unfolding put_off
zero_off b = omega arith

module _ (s p : ℕ) (x : s < 4) (y : p < 262144) (st : State) (K : Kept st) where
  -- lower
  pub lower_means : Kept (rewritten_at read_only st s p) × Put (view_of st) (view_of (rewritten_at read_only st s p)) s p (lowered ((view_of st).held s p))
  lower_means =
      let c = changed s p x y st K read_only (zero_off Writable) mapped_read_only read_only_frame read_only_dirty (λ w e. sym (read_only_wired w) ∙ e) in (
        c.0,
        ⊎_elim
            (λ h. record { here = h.1.held s p ∙ h.0 ∙ sym (ap lowered h.0); others = λ a b far. h.1.held a b; marks = h.1.marks })
            (λ h. record { here = h.1.here ∙ ap Some (low h.0) ∙ sym (ap lowered h.1.was); others = h.1.others; marks = h.1.same (read_only_dirty h.0) })
            c.1,
      )
    where
      low : (w : ℕ) → ◌≡◌ {A = Mapping} (mapping_in (read_only w)) (frame_of w, 1, wired w)
      low w = simp (read_only_frame w, read_only_writable w, read_only_wired w)

  -- unwire
  pub unwire_means : Kept (rewritten_at unwired st s p) × Unwired (view_of st) (view_of (rewritten_at unwired st s p)) s p ((view_of st).held s p)
  unwire_means =
      let c = changed s p x y st K unwired (zero_off Wired) mapped_unwired unwired_frame unwired_dirty (λ w e. absurd (both_ways (wired (unwired w)) (unwired_wired w) e)) in (
        c.0,
        ⊎_elim
            (λ h. subst (Unwired (view_of st) (view_of (rewritten_at unwired st s p)) s p) (sym h.0) h.1)
            (λ h. subst (Unwired (view_of st) (view_of (rewritten_at unwired st s p)) s p) (sym h.1.was)
            (record { here = h.1.here ∙ ap Some (off h.0); others = λ a b far. inl (h.1.others a b far); marked = h.1.same (unwired_dirty h.0) }))
            c.1,
      )
    where
      off : (w : ℕ) → ◌≡◌ {A = Mapping} (mapping_in (unwired w)) (frame_of w, protection_of w, false)
      off w = simp (unwired_frame w, unwired_writable w, unwired_wired w)

-- what a hit leaves of a leaf word
module _ (w : ℕ) where
  pub hit_mapped : (write : Bool) → Mapped w → Mapped (hit_word write w)
  hit_mapped true m = mapped_dirtied (touched w) (mapped_touched w m)
  hit_mapped false m = mapped_touched w m

  pub hit_frame : (write : Bool) → frame_of (hit_word write w) ≡ frame_of w
  hit_frame true = dirtied_frame (touched w) ∙ touched_frame w
  hit_frame false = touched_frame w

  pub hit_wired : (write : Bool) → wired (hit_word write w) ≡ wired w
  hit_wired true = dirtied_wired (touched w) ∙ touched_wired w
  hit_wired false = touched_wired w

  hit_writable : (write : Bool) → writable (hit_word write w) ≡ writable w
  hit_writable true = dirtied_writable (touched w) ∙ touched_writable w
  hit_writable false = touched_writable w

  hit_dirty : (write : Bool) → dirty w ≡ true → dirty (hit_word write w) ≡ true
  hit_dirty true e = dirtied_dirty (touched w)
  hit_dirty false e = touched_dirty w ∙ e

  hit_mapping : (write : Bool) → ◌≡◌ {A = Mapping} (mapping_in (hit_word write w)) (mapping_in w)
  hit_mapping write = simp (hit_frame write, hit_writable write, hit_wired write)

-- the answer of the tables is that of the mapping they hold
serves_answers : (on right write wires : Bool) (f : ℕ) → cond (on && (not write || right)) (Hit f) Miss ≡ answered (cond on (Some (f, cond right 3 1, wires)) None) write
serves_answers true true true wires f = refl
serves_answers true true false wires f = refl
serves_answers true false true wires f = refl
serves_answers true false false wires f = refl
serves_answers false right write wires f = refl

module _ (s p : ℕ) (x : s < 4) (y : p < 262144) (st : State) (K : Kept st) (write : Bool) where
  -- the bits of a hit go on
  hit_there : (t : ℕ) → Reaches st (linear s p) t → present (word_at st (512 * t + linear s p % 512)) ≡ true
      → Kept (hit st (met (linear s p) t) write) × PutForgetting (view_of st) (view_of (hit st (met (linear s p) t) write)) s p ((view_of st).held s p) (marked (view_of st).modified write (frame_of (word_at st (512 * t + linear s p % 512))))
  hit_there t r on = (
    both.0,
    record {
      here = W.here ∙ ap Some (hit_mapping w write) ∙ sym W.was ∙ T.same.held s p;
      others = λ a b far. inl (W.others a b far ∙ T.same.held a b);
      marked = marks write refl;
    },
  )
    where
      n : ℕ
      n = linear s p

      k : ℕ
      k = 512 * t + n % 512

      inside : n < 1048576
      inside = r.within

      st₁ : State
      st₁ = rewritten st 0 touched

      T₁ : Touching st st₁
      T₁ = touch st K 0 (omega arith) (points_some _ 1 K.root)

      st₂ : State
      st₂ = rewritten st₁ (512 + n / 262144) touched

      T₂ : Touching st st₂
      T₂ = touching_more st st₁ st₂ T₁ (touch st₁ T₁.kept (512 + n / 262144) (omega (arith, inside)) (points_some _ (2 + n / 262144) (T₁.kept.entries (n / 262144) (omega (arith, inside)))))

      st₃ : State
      st₃ = rewritten st₂ (1024 + n / 512) touched

      T : Touching st st₃
      T = touching_more st st₂ st₃ T₂ (touch st₂ T₂.kept (1024 + n / 512) (omega (arith, inside)) (points_some _ t (T₂.reaches n t r).points))

      w : ℕ
      w = word_at st₃ k

      same_word : w ≡ word_at st k
      same_word = T.leaf k (omega (arith, r.low))

      m : Mapped w
      m = ⊎_elim
          (λ z. absurd (both_ways (present w) (ap present z ∙ zero_present) (ap present same_word ∙ on)))
          (λ h. h.0)
          (T.kept.leaves k (omega (arith, r.low)) (omega (arith, r.high)))

      u : State
      u = written st₃ k (hit_word write w)

      both : Kept u × Reword (view_of st₃) (view_of u) s p w (hit_word write w)
      both = leaf_reworded s p x y st₃ T.kept t (hit_word write w) (T.reaches n t r) m (hit_mapped w write m) (hit_frame w write) (hit_dirty w write) (λ e. sym (hit_wired w write) ∙ e)

      W : Reword (view_of st₃) (view_of u) s p w (hit_word write w)
      W = both.1

      marks : (b : Bool) → write ≡ b → (view_of u).modified ≡ marked (view_of st).modified write (frame_of (word_at st k))
      marks true e =
          W.marks ∙ ap (λ set. added set (dirty (hit_word write w)) (frame_of (hit_word write w))) T.same.marks
          ∙ ap (λ b. added (view_of st).modified b (frame_of (hit_word write w))) (ap (λ b. dirty (hit_word b w)) e ∙ dirtied_dirty (touched w) ∙ sym e)
          ∙ ap (λ f. added (view_of st).modified write f) (hit_frame w write ∙ ap frame_of same_word)
      marks false e =
          W.same (ap (λ b. dirty (hit_word b w)) e ∙ touched_dirty w) ∙ T.same.marks
          ∙ fun_ext (λ g. sym (or-false ((view_of st).modified g)) ∙ ap (λ b. (view_of st).modified g || (b && eqb g (frame_of (word_at st k)))) (sym e))

  -- access
  Answers : State → Access → Type 0
  Answers u a = Kept u × (a ≡ answered ((view_of st).held s p) write) × Accessed (view_of st) (view_of u) s p write a

  access_there : (t : ℕ) → Reaches st (linear s p) t
      → Answers (cond (serves (word_at st (512 * t + linear s p % 512)) write) (hit st (met (linear s p) t) write) st) (cond (serves (word_at st (512 * t + linear s p % 512)) write) (Hit (frame_of (word_at st (512 * t + linear s p % 512)))) Miss)
  unfolding Answers
  access_there t r = ⊎_elim
      (λ (e : serves w write ≡ true).
      let h = hit_there t r (and_parts (present w) _ e).0 in
      rw e (h.0, sym (cond-true (serves w write) (Hit (frame_of w)) Miss e) ∙ answer, h.1))
      (λ (e : serves w write ≡ false). rw e (K, sym (cond-false (serves w write) (Hit (frame_of w)) Miss e) ∙ answer, record { held = λ a b. refl; marks = refl }))
      (cases_Bool (serves w write))
    where
      w : ℕ
      w = word_at st (512 * t + linear s p % 512)

      answer : cond (serves w write) (Hit (frame_of w)) Miss ≡ answered ((view_of st).held s p) write
      answer = serves_answers (present w) (writable w) write (wired w) (frame_of w) ∙ ap (λ h. answered h write) (sym (held_reached s p x y st K t r))

  pub access_means : Kept (accessed st s p write) × (access_answer st s p write ≡ answered ((view_of st).held s p) write) × Accessed (view_of st) (view_of (accessed st s p write)) s p write (access_answer st s p write)
  unfolding Answers
  access_means = ⊎_elim
      (λ z. let none = walk_nothing st K (linear s p) (page_inside s p x y) z in
      both (after None none) (answer None none) (K, sym (ap (λ h. answered h write) (held_nothing s p x y st K z)), record { held = λ a b. refl; marks = refl }))
      (λ l. both (after (Some (met (linear s p) l.0)) l.1.walks) (answer (Some (met (linear s p) l.0)) l.1.walks) (access_there l.0 l.1))
      (page_cases st K (linear s p) (page_inside s p x y))
    where
      both : {u v : State} {a b : Access} → u ≡ v → a ≡ b → Answers v b → Answers u a
      both {u} {v} {a} {b} e f h = subst (λ i. Answers i a) (sym e) (subst (Answers v) (sym f) h)

      after : (o : Option Walk) → walk st.words (linear s p) ≡ o → accessed st s p write ≡ reached o st (λ w. cond (serves (word_at st w.leaf) write) (hit st w write) st)
      after o e = ap (λ i. reached i st (λ w. cond (serves (word_at st w.leaf) write) (hit st w write) st)) e

      answer : (o : Option Walk) → walk st.words (linear s p) ≡ o → access_answer st s p write ≡ reached o Miss (λ w. cond (serves (word_at st w.leaf) write) (Hit (frame_of (word_at st w.leaf))) Miss)
      answer o e = ap (λ i. reached i Miss (λ w. cond (serves (word_at st w.leaf) write) (Hit (frame_of (word_at st w.leaf))) Miss)) e

-- Slots that are emptied.
use Rattle.std.proofs.lemmas.Bool.Decides.{nat_tests}
use Rattle.std.proofs.Common.{◌≡◌, ℕ, ◌+◌, ◌*◌, ◌<◌, true, false, cond, eqb, List, length, get_or, set, sym, refl, ap, ◌∙◌, subst, inl, inr, ⊎_elim, arith}
use Rattle.std.proofs.lemmas.Bool.{cases_Bool, cases_eq, cond-true, cond-false, eq-eqb, ne_eqb, eqb-true}
use Rattle.std.proofs.lemmas.List.{get_or-set_same, get_or-set_other, length-set}
use Rattle.slots.specs.Changes.{Emptied}
use Rattle.powerpc_words.specs.Fields.{frame_of, changed}
use Rattle.powerpc_words.specs.State.{State, first, second, wired_at}
use Rattle.powerpc_words.specs.Changes.{emptied, forgotten}
use Rattle.powerpc_pmap.specs.Kept.{Unused, Used, Kept}
use Rattle.powerpc_pmap.proofs.Decoded.{entry_at, table, slot_unused, slot_some, slot_same, at_used}
use Rattle.powerpc_pmap.proofs.Keeping.{Tame, same, gone, kept_tame}
use Rattle.powerpc_pmap.proofs.Colors.{changed_zero, shaped_frame}

-- both words of a slot written
module _ (ws : List ℕ) (j a b : ℕ) where
  pub pair_first : 2 * j + 1 < length ws → get_or (set (set ws (2 * j) a) (2 * j + 1) b) (2 * j) 0 ≡ a
  pair_first h = grind (arith, nat_tests, get_or-set_other, get_or-set_same)

  pub pair_second : 2 * j + 1 < length ws → get_or (set (set ws (2 * j) a) (2 * j + 1) b) (2 * j + 1) 0 ≡ b
  pair_second h = grind (arith, nat_tests, get_or-set_same, length-set)

  pub pair_first_other : (k : ℕ) → (k ≡ j → ⊥) → get_or (set (set ws (2 * j) a) (2 * j + 1) b) (2 * k) 0 ≡ get_or ws (2 * k) 0
  pair_first_other k far = grind (arith, nat_tests, get_or-set_other)

  pub pair_second_other : (k : ℕ) → (k ≡ j → ⊥) → get_or (set (set ws (2 * j) a) (2 * j + 1) b) (2 * k + 1) 0 ≡ get_or ws (2 * k + 1) 0
  pair_second_other k far = grind (arith, nat_tests, get_or-set_other)

  pub pair_length : length (set (set ws (2 * j) a) (2 * j + 1) b) ≡ length ws
  pair_length = length-set (set ws (2 * j) a) (2 * j + 1) b ∙ length-set ws (2 * j) a

-- the words, the marks and the wired marks are those of an emptied slot; the counter is free
pub record Cleared (st : State) (j : ℕ) (sv : State) : Type 0 where
  pub words : sv.words ≡ (emptied st j).words
  pub marks : sv.marks ≡ (emptied st j).marks
  pub wired : sv.wired ≡ (emptied st j).wired

pub cleared_emptied : (st : State) (j : ℕ) → Cleared st j (emptied st j)
cleared_emptied st j = record { words = refl; marks = refl; wired = refl }

pub cleared_forgotten : (st : State) (j : ℕ) → Cleared st j (forgotten st j)
unfolding forgotten
cleared_forgotten st j = record { words = refl; marks = refl; wired = refl }

module _ (st : State) (kept : Kept st) (j : ℕ) (b : j < 8192) (sv : State) (c : Cleared st j sv) where
  room : 2 * j + 1 < length st.words
  room = omega (arith, kept.words)

  pub here : Unused sv j
  unfolding emptied
  here = record {
    first = ap (λ l. get_or l (2 * j) 0) c.words ∙ pair_first st.words j 0 0 room;
    second = ap (λ l. get_or l (2 * j + 1) 0) c.words ∙ pair_second st.words j 0 0 room;
    wired = ap (λ l. get_or l j false) c.wired ∙ get_or-set_same st.wired j false false (omega (arith, kept.wired));
  }

  first_there : (k : ℕ) → (k ≡ j → ⊥) → first sv k ≡ first st k
  unfolding emptied
  first_there k far = ap (λ l. get_or l (2 * k) 0) c.words ∙ pair_first_other st.words j 0 0 k far

  second_there : (k : ℕ) → (k ≡ j → ⊥) → second sv k ≡ second st k
  unfolding emptied
  second_there k far = ap (λ l. get_or l (2 * k + 1) 0) c.words ∙ pair_second_other st.words j 0 0 k far

  wired_there : (k : ℕ) → (k ≡ j → ⊥) → wired_at sv k ≡ wired_at st k
  unfolding emptied
  wired_there k far = ap (λ l. get_or l k false) c.wired ∙ get_or-set_other st.wired j k false false far

  pub emptied_tame : (k : ℕ) → k < 8192 → Tame st sv k
  emptied_tame k h = grind (arith, nat_tests, gone, here, same, first_there, second_there, wired_there)

  marks_length : length sv.marks ≡ length st.marks
  unfolding emptied
  marks_length = ap length c.marks ∙ elim (changed (second st j)) as (λ t. length (cond t (set st.marks (frame_of (second st j)) true) st.marks) ≡ length st.marks)
      [ true ↦ length-set st.marks (frame_of (second st j)) true | false ↦ refl ]

  pub emptied_keeps : sv.next < 8 → Kept sv
  unfolding emptied
  emptied_keeps x = kept_tame st sv kept emptied_tame
      (ap length c.words ∙ pair_length st.words j 0 0)
      marks_length
      (ap length c.wired ∙ length-set st.wired j false) x

  in_use : changed (second st j) ≡ true → Used st j
  in_use t = grind (arith, nat_tests, changed_zero)

  marks_on : changed (second st j) ≡ true → sv.marks ≡ set st.marks (frame_of (second st j)) true
  unfolding emptied
  marks_on t = c.marks ∙ cond-true _ _ _ t

  marks_off : changed (second st j) ≡ false → sv.marks ≡ st.marks
  unfolding emptied
  marks_off t = c.marks ∙ cond-false _ _ _ t

  mark_new : changed (second st j) ≡ true → (f : ℕ) → f ≡ frame_of (second st j) → get_or sv.marks f false ≡ true
  mark_new t f q =
      ap (λ l. get_or l f false) (marks_on t) ∙ ap (λ x. get_or (set st.marks (frame_of (second st j)) true) x false) q
      ∙ get_or-set_same st.marks (frame_of (second st j)) true false (omega (arith, shaped_frame (second st j) (in_use t).shape, kept.marks))

  mark_old : changed (second st j) ≡ true → (f : ℕ) → (f ≡ frame_of (second st j) → ⊥) → get_or sv.marks f false ≡ get_or st.marks f false
  mark_old t f q = ap (λ l. get_or l f false) (marks_on t) ∙ get_or-set_other st.marks (frame_of (second st j)) f true false q

  pub emptied_table : Emptied (table st) (table sv) (λ k. eqb k j)
  emptied_table = record {
    slots = λ k. ⊎_elim
        (λ (q : k ≡ j). slot_unused sv k (subst (Unused sv) (sym q) here).first ∙ sym (cond-true _ _ _ (eq-eqb k j q)))
        (λ (q : k ≡ j → ⊥). slot_same st sv k (first_there k q) (second_there k q) (wired_there k q) ∙ sym (cond-false _ _ _ (ne_eqb k j q)))
        (cases_eq k j);
    kept = λ f m. ⊎_elim
        (λ (t : changed (second st j) ≡ true). ⊎_elim (λ (q : f ≡ frame_of (second st j)). mark_new t f q) (λ (q : f ≡ frame_of (second st j) → ⊥). mark_old t f q ∙ m) (cases_eq f (frame_of (second st j))))
        (λ (t : changed (second st j) ≡ false). ap (λ l. get_or l f false) (marks_off t) ∙ m)
        (cases_Bool (changed (second st j)));
    merged = λ f x.
        let q : x.at ≡ j = eqb-true x.at j x.goes in
        let e = (slot_some st x.at x.entry x.found).2 in
        mark_new (ap (λ k. changed (second st k)) (sym q) ∙ ap (λ z. z.dirty) e ∙ x.on) f
        (sym (ap (λ k. frame_of (second st k)) (sym q) ∙ ap (λ z. z.frame) e ∙ x.frame));
    only = λ f m. ⊎_elim
        (λ (t : changed (second st j) ≡ true). ⊎_elim
        (λ (q : f ≡ frame_of (second st j)).
        let u = in_use t in
        inr (record { at = j; entry = entry_at st j; found = at_used st j u.space u.page u.side u.at; goes = eq-eqb j j refl; frame = sym q; on = t }))
        (λ (q : f ≡ frame_of (second st j) → ⊥). inl (sym (mark_old t f q) ∙ m))
        (cases_eq f (frame_of (second st j))))
        (λ (t : changed (second st j) ≡ false). inl (sym (ap (λ l. get_or l f false) (marks_off t)) ∙ m))
        (cases_Bool (changed (second st j)));
  }

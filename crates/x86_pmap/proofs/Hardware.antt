-- The hardware: its lookup in the words of a kept board finds a mapping precisely where the pmap holds it, and a hit sets its bits.
use Rattle.std.proofs.Common.{◌≡◌, ℕ, ◌+◌, ◌*◌, ◌/◌, ◌%◌, ◌<◌, Bool, true, false, cond, ◌||◌, eqb, length, Some, None, Ok, Err, Option, Result, sym, refl, ap, ◌∙◌, subst, ⊎_elim, arith}
use Rattle.pmap.specs.Ranges.{fits_place}
use Rattle.std.proofs.lemmas.Bool.{cond-true, cond-false, cases_Bool, cases_eq, eq-eqb, ne_eqb, or_left, or_right, or_from}
use Rattle.std.proofs.lemmas.List.{get_or-set_same, get_or-set_other, length-set}
use Rattle.refusal.specs.declared.pmap.PmapRefusal.{PmapRefusal}
use Rattle.refusal.specs.declared.pmap.PmapRefusal.TheVariants.{Range}
use Rattle.pmap.specs.declared.access.Access.{Access}
use Rattle.pmap.specs.declared.access.Access.TheVariants.{Hit, Miss}
use Rattle.x86_words.specs.Words.{writable, frame_of, touched, hit_word, serves}
use Rattle.x86_words.specs.Walks.{linear}
use Rattle.x86_words.specs.State.{State, word_at, rewritten, reached, found_in, hit, accessed, access_answer}
use Rattle.x86_words.specs.Answers.{at_place, placed}
use Rattle.x86_words.specs.Lookups.{translation, lookup}
use Rattle.x86_pmap.specs.Kept.{Kept}
use Rattle.x86_pmap.specs.Views.{view_of}
use Rattle.x86_pmap.specs.Seen.{seen, Sees, hit_bits, SetsBits}
use Rattle.x86_pmap.proofs.Fields.{mapped_present, mapped_frame, zero_present}
use Rattle.x86_pmap.proofs.Tables.{met, Reaches, page_cases, walk_nothing, fits_both}
use Rattle.x86_pmap.proofs.Places.{page_inside, held_reached, held_nothing}

pub hardware_sees : (st : State) → Kept st → (s p : ℕ) → Sees (view_of st) s p (lookup st.words (linear s p))
hardware_sees st K s p fits = ⊎_elim
    (λ z. ap (λ w. reached w None (λ v. translation (word_at st v.leaf))) (walk_nothing st K (linear s p) (page_inside s p x y) z) ∙ sym (ap seen (held_nothing s p x y st K z)))
    (λ l. there l.0 l.1)
    (page_cases st K (linear s p) (page_inside s p x y))
  where
    x : s < 4
    x = (fits_both s p fits).0

    y : p < 262144
    y = (fits_both s p fits).1

    right : (b : Bool) → eqb (cond b 3 1) 3 ≡ b
    right true = refl
    right false = refl

    pair : {a c : ℕ} {b d : Bool} → a ≡ c → b ≡ d → ◌≡◌ {A = Option (ℕ × Bool)} (Some (a, b)) (Some (c, d))
    pair e f = cc

    there : (t : ℕ) → Reaches st (linear s p) t → lookup st.words (linear s p) ≡ seen ((view_of st).held s p)
    there t r =
        ap (λ w. reached w None (λ v. translation (word_at st v.leaf))) r.walks ∙ same ∙ sym (ap seen (held_reached s p x y st K t r))
      where
        k : ℕ
        k = 512 * t + linear s p % 512

        same : translation (word_at st k) ≡ seen (found_in (word_at st k))
        same = ⊎_elim
            (λ z. ap translation z ∙ cond-false _ _ None zero_present ∙ sym (ap (λ w. seen (found_in w)) z ∙ ap seen (cond-false _ _ None zero_present)))
            (λ m. let on = mapped_present (word_at st k) m.0 in
            cond-true _ _ None on ∙ pair (mapped_frame (word_at st k) m.0) (sym (right (writable (word_at st k))))
            ∙ sym (ap seen (cond-true _ _ None on)))
            (K.leaves k (omega (arith, r.low)) (omega (arith, r.high)))

-- after a hit the words are as the hardware leaves them
module _ (st : State) (K : Kept st) (n t : ℕ) (r : Reaches st n t) (write : Bool) where
  pub hit_sets : (k : ℕ) → word_at (hit st (met n t) write) k ≡ hit_bits st.words (Some (met n t)) write k
  hit_sets k = ⊎_elim
      (λ (q : k ≡ leaf). last_here k q ∙ sym (cond-true (eqb k leaf) _ _ (eq-eqb k leaf q)))
      (λ (q : k ≡ leaf → ⊥). get_or-set_other st₃.words leaf k (hit_word write (word_at st₃ leaf)) 0 q ∙ upper k ∙ sym (cond-false (eqb k leaf) _ _ (ne_eqb k leaf q)))
      (cases_eq k leaf)
    where
      inside : n < 1048576
      inside = r.within

      entry : ℕ
      entry = 512 + n / 262144

      directory : ℕ
      directory = 1024 + n / 512

      leaf : ℕ
      leaf = 512 * t + n % 512

      st₁ : State
      st₁ = rewritten st 0 touched

      st₂ : State
      st₂ = rewritten st₁ entry touched

      st₃ : State
      st₃ = rewritten st₂ directory touched

      met_above : ℕ → Bool
      met_above k = eqb k 0 || (eqb k entry || eqb k directory)

      above : ℕ → ℕ
      above k = cond (met_above k) (touched (word_at st k)) (word_at st k)

      on : (k : ℕ) → met_above k ≡ true → touched (word_at st k) ≡ above k
      on k e = sym (cond-true (met_above k) (touched (word_at st k)) (word_at st k) e)

      off : (k : ℕ) → met_above k ≡ false → word_at st k ≡ above k
      off k e = sym (cond-false (met_above k) (touched (word_at st k)) (word_at st k) e)

      -- one word is touched
      here : (a : State) (i : ℕ) → i < length a.words → (k : ℕ) → k ≡ i → word_at (rewritten a i touched) k ≡ touched (word_at a k)
      here a i h k q = ap (word_at (rewritten a i touched)) q ∙ get_or-set_same a.words i (touched (word_at a i)) 0 h ∙ ap (λ j. touched (word_at a j)) (sym q)

      there : (a : State) (i k : ℕ) → (k ≡ i → ⊥) → word_at (rewritten a i touched) k ≡ word_at a k
      there a i k q = get_or-set_other a.words i k (touched (word_at a i)) 0 q

      size₁ : length st₁.words ≡ 8192
      size₁ = length-set st.words 0 (touched (word_at st 0)) ∙ K.size

      size₂ : length st₂.words ≡ 8192
      size₂ = length-set st₁.words entry (touched (word_at st₁ entry)) ∙ size₁

      size₃ : length st₃.words ≡ 8192
      size₃ = length-set st₂.words directory (touched (word_at st₂ directory)) ∙ size₂

      upper : (k : ℕ) → word_at st₃ k ≡ above k
      upper k = ⊎_elim
          (λ (q : k ≡ 0). there st₂ directory k (omega arith) ∙ there st₁ entry k (omega arith) ∙ here st 0 (omega (arith, K.size)) k q ∙ on k (or_left (eqb k 0) (eqb k entry || eqb k directory) (eq-eqb k 0 q)))
          (λ (q : k ≡ 0 → ⊥). ⊎_elim
          (λ (p : k ≡ entry). there st₂ directory k (omega (arith, inside)) ∙ here st₁ entry (omega (arith, size₁, inside)) k p ∙ ap touched (there st 0 k q) ∙ on k (or_right (eqb k 0) (eqb k entry || eqb k directory) (or_left (eqb k entry) (eqb k directory) (eq-eqb k entry p))))
          (λ (p : k ≡ entry → ⊥). ⊎_elim
          (λ (o : k ≡ directory). here st₂ directory (omega (arith, size₂, inside)) k o ∙ ap touched (there st₁ entry k p ∙ there st 0 k q) ∙ on k (or_right (eqb k 0) (eqb k entry || eqb k directory) (or_right (eqb k entry) (eqb k directory) (eq-eqb k directory o))))
          (λ (o : k ≡ directory → ⊥). there st₂ directory k o ∙ there st₁ entry k p ∙ there st 0 k q ∙ off k (or_from (eqb k 0) (eqb k entry || eqb k directory) (ne_eqb k 0 q) (or_from (eqb k entry) (eqb k directory) (ne_eqb k entry p) (ne_eqb k directory o))))
          (cases_eq k directory))
          (cases_eq k entry))
          (cases_eq k 0)

      leaf_before : word_at st₃ leaf ≡ word_at st leaf
      leaf_before = there st₂ directory leaf (omega (arith, inside, r.low)) ∙ there st₁ entry leaf (omega (arith, inside, r.low)) ∙ there st 0 leaf (omega (arith, r.low))

      last_here : (k : ℕ) → k ≡ leaf → word_at (hit st (met n t) write) k ≡ hit_word write (word_at st k)
      last_here k q =
          ap (word_at (hit st (met n t) write)) q ∙ get_or-set_same st₃.words leaf (hit_word write (word_at st₃ leaf)) 0 (omega (arith, size₃, r.high)) ∙ ap (hit_word write) (leaf_before ∙ ap (word_at st) (sym q))

-- an access sets the bits of a hit, and none otherwise
pub access_sets : (st u : State) → Kept st → (s p : ℕ) (write : Bool) (a : Result Access PmapRefusal)
    → a ≡ at_place s p (access_answer st s p write) → u ≡ placed s p (accessed st s p write) st → SetsBits st.words u.words (linear s p) write a
access_sets st u K s p write a answer then = ⊎_elim
    (λ (f : fits_place s p ≡ true).
    both (answer ∙ cond-true (fits_place s p) (Ok (access_answer st s p write)) (Err Range) f) (then ∙ cond-true (fits_place s p) (accessed st s p write) st f) (inside (fits_both s p f).0 (fits_both s p f).1))
    (λ (f : fits_place s p ≡ false).
    both (answer ∙ cond-false (fits_place s p) (Ok (access_answer st s p write)) (Err Range) f) (then ∙ cond-false (fits_place s p) (accessed st s p write) st f) refl)
    (cases_Bool (fits_place s p))
  where
    After : State → Result Access PmapRefusal → Type 0
    After v b = SetsBits st.words v.words (linear s p) write b

    both : {v : State} {b : Result Access PmapRefusal} → a ≡ b → u ≡ v → After v b → After u a
    both {v} {b} e q h = subst (λ i. After i a) (sym q) (subst (After v) (sym e) h)

    inside : s < 4 → p < 262144 → After (accessed st s p write) (Ok (access_answer st s p write))
    inside x y = ⊎_elim
        (λ z. let none = walk_nothing st K (linear s p) (page_inside s p x y) z in
        step (ap (λ w. reached w st (λ w. cond (serves (word_at st w.leaf) write) (hit st w write) st)) none) (ap (λ w. reached w Miss (λ w. cond (serves (word_at st w.leaf) write) (Hit (frame_of (word_at st w.leaf))) Miss)) none) refl)
        (λ l. step (ap (λ w. reached w st (λ w. cond (serves (word_at st w.leaf) write) (hit st w write) st)) l.1.walks) (ap (λ w. reached w Miss (λ w. cond (serves (word_at st w.leaf) write) (Hit (frame_of (word_at st w.leaf))) Miss)) l.1.walks) (there l.0 l.1 (serves (word_at st (512 * l.0 + linear s p % 512)) write)))
        (page_cases st K (linear s p) (page_inside s p x y))
      where
        step : {v w : State} {b c : Access} → v ≡ w → b ≡ c → After w (Ok c) → After v (Ok b)
        step {v} {w} {b} {c} e q h = subst (λ i. After i (Ok b)) (sym e) (subst (λ i. After w (Ok i)) (sym q) h)

        there : (t : ℕ) → Reaches st (linear s p) t → (b : Bool) → After (cond b (hit st (met (linear s p) t) write) st) (Ok (cond b (Hit (frame_of (word_at st (512 * t + linear s p % 512)))) Miss))
        there t r true = λ k. hit_sets st K (linear s p) t r write k ∙ ap (λ w. hit_bits st.words w write k) (sym r.walks)
        there t r false = refl

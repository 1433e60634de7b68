-- One page more of a range. Assumes nothing.
use Rattle.std.proofs.Common.{◌≡◌, ℕ, ◌+◌, ◌<◌, ◌≤◌, true, false, cond, ◌&&◌, eqb, ltb, leb, Option, sym, refl, ap, ◌∙◌, ⊎_elim, arith}
use Rattle.std.proofs.lemmas.Bool.{cases_eq, cases_Bool, cond-true, cond-false, both_ways, and_parts, and_from, eq-eqb, eqb-true, leb-true, ltb-true, le-leb, lt-ltb}
use Rattle.pmap.specs.Meaning.{Mapping, View, Put}
use Rattle.memory_meaning.specs.Ranges.{within, Over}

pub within_is : (s f n a b : ℕ) → s ≡ a → f ≤ b → b < f + n → within s f n a b ≡ true
unfolding within
within_is s f n a b x y z = and_from _ _ (eq-eqb _ _ x) (and_from _ _ (le-leb _ _ y) (lt-ltb _ _ z))

pub within_parts : (s f n a b : ℕ) → within s f n a b ≡ true → (s ≡ a) × (f ≤ b) × (b < f + n)
unfolding within
within_parts s f n a b e =
    let x = and_parts (eqb s a) (leb f b && ltb b (f + n)) e in
    let y = and_parts (leb f b) (ltb b (f + n)) x.1 in
    (eqb-true _ _ x.0, leb-true _ _ y.0, ltb-true _ _ y.1)

outside : (s f n a b : ℕ) → ((s ≡ a) × (f ≤ b) × (b < f + n) → ⊥) → within s f n a b ≡ false
outside s f n a b no_way = ⊎_elim (λ e. absurd (no_way (within_parts s f n a b e))) (λ e. e) (cases_Bool (within s f n a b))

module _ (change : Option Mapping → Option Mapping) (v : View) (s f : ℕ) where
  pub over_none : (n : ℕ) → n ≡ 0 → Over change v v s f n
  over_none n z = record {
    held = λ a b. sym (cond-false _ _ _ (outside s f n a b (λ x. omega (arith, x.1, x.2))));
    marks = refl;
  }

  pub over_more : (w x : View) (n p : ℕ) → Over change v w s f n → p ≡ f + n → Put w x s p (change (w.held s p)) → Over change v x s f (n + 1)
  over_more w x n p o at put = record {
    held = λ a b. ⊎_elim
        (λ (e : a ≡ s). ⊎_elim
        (λ (q : b ≡ p). here a b e q)
        (λ (q : b ≡ p → ⊥). there a b (λ _ y. q y))
        (cases_eq b p))
        (λ (e : a ≡ s → ⊥). there a b (λ y _. e y))
        (cases_eq a s);
    marks = put.marks ∙ o.marks;
  }
    where
      same : w.held s p ≡ v.held s p
      same = o.held s p ∙ cond-false _ _ _ (outside s f n s p (λ y. omega (arith, y.2, at)))

      here : (a b : ℕ) → a ≡ s → b ≡ p → x.held a b ≡ cond (within s f (n + 1) a b) (change (v.held a b)) (v.held a b)
      here a b e q =
          ap (λ z. x.held z b) e ∙ ap (x.held s) q ∙ put.here ∙ ap change same
          ∙ ap (λ z. change (v.held z p)) (sym e) ∙ ap (λ z. change (v.held a z)) (sym q)
          ∙ sym (cond-true _ _ _ (within_is s f (n + 1) a b (sym e) (omega (arith, at, q)) (omega (arith, at, q))))

      there : (a b : ℕ) → (a ≡ s → b ≡ p → ⊥) → x.held a b ≡ cond (within s f (n + 1) a b) (change (v.held a b)) (v.held a b)
      there a b far = put.others a b far ∙ o.held a b ∙ ap (λ z. cond z (change (v.held a b)) (v.held a b)) (⊎_elim
          (λ (e : within s f n a b ≡ true). let y = within_parts s f n a b e in e ∙ sym (within_is s f (n + 1) a b y.0 y.1 (omega (arith, y.2))))
          (λ (e : within s f n a b ≡ false). e ∙ sym (outside s f (n + 1) a b (λ y.
          ⊎_elim
          (λ (q : b ≡ p). far (sym y.0) q)
          (λ (q : b ≡ p → ⊥). both_ways _ e (within_is s f n a b y.0 y.1 (omega (arith, y.2, at, q))))
          (cases_eq b p))))
          (cases_Bool (within s f n a b)))

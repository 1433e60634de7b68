-- Laws of the first element that passes a test, and of lists of wired places. Assumes nothing.
use Rattle.std.proofs.Common.{◌≡◌, ℕ, Bool, true, false, cond, ◌||◌, eqb, ◌⊎◌, List, [], ◌∷◌, ◌++◌, Some, None, Option, sym, refl, ap, ◌∙◌, inl, inr, ⊎_elim, arith}
use Rattle.std.specs.List.{AllByRecursion}
use Rattle.std.proofs.lemmas.Bool.{cases_Bool, cond-true, cond-false, both_ways, or_parts, and_parts, and_from, eqb-true, eq-eqb}
use Rattle.rules.specs.declared.region.WiredPlace.{WiredPlace}
use Rattle.rules.specs.Lists.{first, any, without, changed}
use Rattle.rules.specs.Refusals.{is_place}
use Rattle.rules.proofs.Lists.{first_hit, first_miss, any_append}
use Rattle.memory_meaning.specs.Matches.{PlacesApart}

pub none_some : {A : Type 0} {x : A} → ◌≡◌ {A = Option A} None (Some x) → ⊥
none_some e = let z : ◌≡◌ {A = ℕ} 0 1 = cc in omega arith

pub some_inj : {A : Type 0} {x y : A} → Some x ≡ Some y → x ≡ y
some_inj e = cc

module _ {A : Type 0} (test : A → Bool) where
  pub first_append : (xs ys : List A) (x : A) → first test xs ≡ Some x → first test (xs ++ ys) ≡ Some x
  unfolding first
  first_append [] ys x e = absurd (none_some e)
  first_append (y ∷ zs) ys x e = ⊎_elim
      (λ (t : test y ≡ true). first_hit test y (zs ++ ys) t ∙ sym (first_hit test y zs t) ∙ e)
      (λ (t : test y ≡ false). first_miss test y (zs ++ ys) t ∙ first_append zs ys x (sym (first_miss test y zs t) ∙ e))
      (cases_Bool (test y))

  -- leaving out an element that does not pass leaves the first that does
  pub first_without : (other : A → Bool) (xs : List A) (r : A) → first other xs ≡ Some r → test r ≡ false → first test (without other xs) ≡ first test xs
  unfolding first without
  first_without other [] r e t = refl
  first_without other (x ∷ xs) r e t = ⊎_elim
      (λ (o : other x ≡ true).
      let same : x ≡ r = some_inj (sym (cond-true _ _ _ o) ∙ e) in
      ap (first test) (cond-true _ _ _ o) ∙ sym (first_miss test x xs (ap test same ∙ t)))
      (λ (o : other x ≡ false).
      ap (first test) (cond-false _ _ _ o)
      ∙ ap (λ z. cond (test x) (Some x) z) (first_without other xs r (sym (cond-false _ _ _ o) ∙ e) t))
      (cases_Bool (other x))

  -- a change that does not matter to the test: the first that passes is as it was, or is the one that was changed
  pub first_changed : (other : A → Bool) (f : A → A) → ((x : A) → test (f x) ≡ test x) → (xs : List A) (r : A) → first test xs ≡ Some r → (first test (changed other f xs) ≡ Some r) ⊎ ((first other xs ≡ Some r) × (first test (changed other f xs) ≡ Some (f r)))
  unfolding first changed
  first_changed other f same [] r e = absurd (none_some e)
  first_changed other f same (x ∷ xs) r e = ⊎_elim
      (λ (o : other x ≡ true). ⊎_elim
      (λ (t : test x ≡ true).
      let is : x ≡ r = some_inj (sym (cond-true _ _ _ t) ∙ e) in
      inr (cond-true _ _ _ o ∙ ap Some is, ap (first test) (cond-true _ _ _ o) ∙ first_hit test (f x) xs (same x ∙ t) ∙ ap (λ z. Some (f z)) is))
      (λ (t : test x ≡ false).
      inl (ap (first test) (cond-true _ _ _ o) ∙ first_miss test (f x) xs (same x ∙ t) ∙ sym (cond-false _ _ _ t) ∙ e))
      (cases_Bool (test x)))
      (λ (o : other x ≡ false). ⊎_elim
      (λ (t : test x ≡ true).
      inl (ap (first test) (cond-false _ _ _ o) ∙ first_hit test x (changed other f xs) t ∙ sym (cond-true _ _ _ t) ∙ e))
      (λ (t : test x ≡ false). ⊎_elim
      (λ l. inl (ap (first test) (cond-false _ _ _ o) ∙ first_miss test x (changed other f xs) t ∙ l))
      (λ l. inr (cond-false _ _ _ o ∙ l.0, ap (first test) (cond-false _ _ _ o) ∙ first_miss test x (changed other f xs) t ∙ l.1))
      (first_changed other f same xs r (sym (cond-false _ _ _ t) ∙ e)))
      (cases_Bool (test x)))
      (cases_Bool (other x))

  -- what holds of each, where none passes the test, from what holds of each that does not pass it
  pub all_untested : (P Q : A → Type 0) → ((x : A) → test x ≡ false → P x → Q x) → (xs : List A) → any test xs ≡ false → AllByRecursion P xs → AllByRecursion Q xs
  unfolding any
  all_untested P Q f [] n h = tt
  all_untested P Q f (x ∷ xs) n h =
      let parts = or_parts (test x) (any test xs) n in
      (f x parts.0 h.0, all_untested P Q f xs parts.1 h.1)

-- two tests for one place are one test
pub place_test : (a b : ℕ) (w : WiredPlace) → is_place a b w ≡ true → (w.space ≡ a) × (w.page ≡ b)
place_test a b w e = let parts = and_parts (eqb w.space a) (eqb w.page b) e in (eqb-true _ _ parts.0, eqb-true _ _ parts.1)

-- once a place is left out, it stands there no more
pub place_gone : (a b : ℕ) (ws : List WiredPlace) → PlacesApart ws → any (is_place a b) (without (is_place a b) ws) ≡ false
unfolding any without PlacesApart
place_gone a b [] h = refl
place_gone a b (w ∷ ws) h = ⊎_elim
    (λ (e : is_place a b w ≡ true).
    let at = place_test a b w e in
    ap (any (is_place a b)) (cond-true _ _ _ e) ∙ ap (λ z. any (is_place z b) ws) (sym at.0) ∙ ap (λ z. any (is_place w.space z) ws) (sym at.1) ∙ h.0)
    (λ (e : is_place a b w ≡ false).
    ap (any (is_place a b)) (cond-false _ _ _ e) ∙ ap (λ z. z || any (is_place a b) (without (is_place a b) ws)) e ∙ place_gone a b ws h.1)
    (cases_Bool (is_place a b w))

place_sym : (v w : WiredPlace) → is_place w.space w.page v ≡ false → is_place v.space v.page w ≡ false
place_sym v w n = ⊎_elim
    (λ e. let at = place_test v.space v.page w e in
    absurd (both_ways _ n (and_from _ _ (eq-eqb _ _ (sym at.0)) (eq-eqb _ _ (sym at.1)))))
    (λ e. e)
    (cases_Bool (is_place v.space v.page w))

pub apart_push : (ws : List WiredPlace) (w : WiredPlace) → PlacesApart ws → any (is_place w.space w.page) ws ≡ false → PlacesApart (ws ++ (w ∷ []))
unfolding any PlacesApart
apart_push [] w h n = (refl, tt)
apart_push (v ∷ ws) w h n =
    let parts = or_parts (is_place w.space w.page v) (any (is_place w.space w.page) ws) n in (
      any_append (is_place v.space v.page) ws (w ∷ [])
          ∙ ap (λ z. z || (is_place v.space v.page w || false)) h.0
          ∙ ap (λ z. z || false) (place_sym v w parts.0),
      apart_push ws w h.1 parts.1,
    )

none_without : (test other : WiredPlace → Bool) (ws : List WiredPlace) → any test ws ≡ false → any test (without other ws) ≡ false
unfolding any without
none_without test other [] n = refl
none_without test other (w ∷ ws) n =
    let parts = or_parts (test w) (any test ws) n in
    ⊎_elim
    (λ (o : other w ≡ true). ap (any test) (cond-true _ _ _ o) ∙ parts.1)
    (λ (o : other w ≡ false). ap (any test) (cond-false _ _ _ o) ∙ ap (λ z. z || any test (without other ws)) parts.0 ∙ none_without test other ws parts.1)
    (cases_Bool (other w))

pub apart_without : (test : WiredPlace → Bool) (ws : List WiredPlace) → PlacesApart ws → PlacesApart (without test ws)
unfolding without PlacesApart
apart_without test [] h = tt
apart_without test (w ∷ ws) h = ⊎_elim
    (λ (t : test w ≡ true). rw (cond-true (test w) ws (w ∷ without test ws) t) h.1)
    (λ (t : test w ≡ false). rw (cond-false (test w) ws (w ∷ without test ws) t)
    (none_without (is_place w.space w.page) test ws h.0, apart_without test ws h.1))
    (cases_Bool (test w))

-- Lists of different numbers: which numbers stand in them, without one and with one more. Assumes nothing.
use Rattle.std.proofs.Common.{◌≡◌, ℕ, zero, suc, ◌<◌, Bool, true, false, ◌||◌, eqb, List, [], ◌∷◌, ◌++◌, length, get_or, Some, sym, refl, ap, ◌∙◌, ⊎_elim, arith}
use Rattle.std.proofs.lemmas.Bool.{cases_Bool, eq-eqb, ne_eqb, eqb-true, eqb-false, both_ways, or_parts, or_left, or_right}
use Rattle.rules.specs.Lists.{first, any, without}
use Rattle.rules.specs.Good.{Apart}
use Rattle.rules.proofs.Lists.{never, any_push, any_push_other}

-- where a number stands

pub has_at : (f : ℕ) (xs : List ℕ) → any (eqb f) xs ≡ true → (i : ℕ) × (i < length xs) × (get_or xs i 0 ≡ f)
unfolding any
has_at f [] e = never (cc)
has_at f (x ∷ xs) e = ⊎_elim
    (λ (t : eqb f x ≡ true). (0, omega arith, sym (eqb-true f x t)))
    (λ (t : eqb f x ≡ false). let r = has_at f xs (simp t at e) in (suc r.0, (let h = r.1 in omega arith), r.2))
    (cases_Bool (eqb f x))

pub at_has : (f : ℕ) (xs : List ℕ) (i : ℕ) → i < length xs → get_or xs i 0 ≡ f → any (eqb f) xs ≡ true
unfolding any
at_has f [] i h e = absurd (omega arith)
at_has f (x ∷ xs) zero h e = or_left (eqb f x) (any (eqb f) xs) (eq-eqb f x (sym e))
at_has f (x ∷ xs) (suc i) h e = or_right (eqb f x) (any (eqb f) xs) (at_has f xs i (omega arith) e)

-- the first that passes a test stands in the list
pub first_has : (test : ℕ → Bool) (xs : List ℕ) (f : ℕ) → first test xs ≡ Some f → any (eqb f) xs ≡ true
unfolding first any
first_has test [] f e = never (cc)
first_has test (x ∷ xs) f e = ⊎_elim
    (λ (t : test x ≡ true). let k : Some x ≡ Some f = simp t at e in let same : x ≡ f = cc in or_left (eqb f x) (any (eqb f) xs) (eq-eqb f x (sym same)))
    (λ (t : test x ≡ false). or_right (eqb f x) (any (eqb f) xs) (first_has test xs f (simp t at e)))
    (cases_Bool (test x))

-- different numbers, by head and tail

pub apart_head : (x : ℕ) (xs : List ℕ) → Apart (x ∷ xs) → any (eqb x) xs ≡ false
apart_head x xs apart = ⊎_elim
    (λ (t : any (eqb x) xs ≡ true).
    let r = has_at x xs t in
    let z : 0 ≡ suc r.0 = apart 0 (suc r.0) (omega arith) (let h = r.1 in omega arith) (sym r.2) in
    absurd (omega arith))
    (λ (t : any (eqb x) xs ≡ false). t)
    (cases_Bool (any (eqb x) xs))

pub apart_tail : (x : ℕ) (xs : List ℕ) → Apart (x ∷ xs) → Apart xs
apart_tail x xs apart i j h k e = let z : suc i ≡ suc j = apart (suc i) (suc j) (omega arith) (omega arith) e in omega arith

pub apart_cons : (x : ℕ) (xs : List ℕ) → any (eqb x) xs ≡ false → Apart xs → Apart (x ∷ xs)
apart_cons x xs new apart zero zero h k e = refl
apart_cons x xs new apart zero (suc j) h k e = absurd (both_ways (any (eqb x) xs) new (at_has x xs j (omega arith) (sym e)))
apart_cons x xs new apart (suc i) zero h k e = absurd (both_ways (any (eqb x) xs) new (at_has x xs i (omega arith) e))
apart_cons x xs new apart (suc i) (suc j) h k e = ap suc (apart i j (omega arith) (omega arith) e)

-- with one more

pub has_push_same : (f : ℕ) (xs : List ℕ) → any (eqb f) (xs ++ (f ∷ [])) ≡ true
has_push_same f xs = any_push (eqb f) xs f (eq-eqb f f refl)

pub has_push_other : (g f : ℕ) (xs : List ℕ) → (g ≡ f → ⊥) → any (eqb g) (xs ++ (f ∷ [])) ≡ any (eqb g) xs
has_push_other g f xs n = any_push_other (eqb g) xs f (ne_eqb g f n)

pub apart_push : (f : ℕ) (xs : List ℕ) → any (eqb f) xs ≡ false → Apart xs → Apart (xs ++ (f ∷ []))
unfolding any
apart_push f [] new apart = apart_cons f [] refl apart
apart_push f (x ∷ xs) new apart =
    let parts = or_parts (eqb f x) (any (eqb f) xs) new in
    apart_cons x (xs ++ (f ∷ []))
    (has_push_other x f xs (λ e. eqb-false f x parts.0 (sym e)) ∙ apart_head x xs apart)
    (apart_push f xs parts.1 (apart_tail x xs apart))

-- without one

pub has_without_same : (f : ℕ) (xs : List ℕ) → Apart xs → any (eqb f) (without (eqb f) xs) ≡ false
unfolding any without
has_without_same f [] apart = refl
has_without_same f (x ∷ xs) apart = ⊎_elim
    (λ (t : eqb f x ≡ true). let same = eqb-true f x t in simp t (rw same (apart_head x xs apart)))
    (λ (t : eqb f x ≡ false). simp t (has_without_same f xs (apart_tail x xs apart)))
    (cases_Bool (eqb f x))

pub has_without_other : (g f : ℕ) (xs : List ℕ) → (g ≡ f → ⊥) → any (eqb g) (without (eqb f) xs) ≡ any (eqb g) xs
unfolding any without
has_without_other g f [] n = refl
has_without_other g f (x ∷ xs) n = ⊎_elim
    (λ (t : eqb f x ≡ true). let o : eqb g x ≡ false = ne_eqb g x (λ e. n (e ∙ sym (eqb-true f x t))) in simp (t, o))
    (λ (t : eqb f x ≡ false). simp t (ap (λ b. eqb g x || b) (has_without_other g f xs n)))
    (cases_Bool (eqb f x))

pub apart_without : (f : ℕ) (xs : List ℕ) → Apart xs → Apart (without (eqb f) xs)
unfolding without
apart_without f [] apart = apart
apart_without f (x ∷ xs) apart = ⊎_elim
    (λ (t : eqb f x ≡ true). simp t (apart_tail x xs apart))
    (λ (t : eqb f x ≡ false). simp t (apart_cons x (without (eqb f) xs)
    (has_without_other x f xs (λ e. eqb-false f x t (sym e)) ∙ apart_head x xs apart)
    (apart_without f xs (apart_tail x xs apart))))
    (cases_Bool (eqb f x))

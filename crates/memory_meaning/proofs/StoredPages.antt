-- A sync at the page records: one record, and one more. Assumes nothing.
use Rattle.std.proofs.Common.{◌≡◌, ℕ, zero, suc, ◌+◌, ◌/◌, ◌<◌, Bool, true, false, cond, not, ◌&&◌, ◌||◌, eqb, List, length, get_or, set, Some, None, Option, sym, refl, ap, ◌∙◌, ⊎_elim, add-zero, add-one, arith, length-set, get_or-set_other, get_or-set_same}
use Rattle.std.proofs.lemmas.Bool.{cases_eq, cases_Bool, cond-true, cond-false, both_ways, and_parts, and_from, and_right, or_from, eq-eqb, ne_eqb}
use Rattle.pmap.specs.Meaning.{View, Unmarked}
use Rattle.rules.specs.State.{dirty_in}
use Rattle.pmap.proofs.Crowds.{tally_none, tally_hit, tally_miss}
use Rattle.memory_meaning.specs.Storing.{due, word_of, unmarked_in, StoresOne, StoresBelow, OnePageEach, is_frame, held_below}

module _ (v : View) (before words : List ℕ) (o x : ℕ) where
  pub stores_not : (page : Option ℕ) → due v.modified o x page ≡ false → StoresOne v v before before words o x page false
  stores_not page e = record { told = sym e; store = refl; held = λ a b. refl; marks = refl }

  pub stores_yes : (w : View) (page : Option ℕ) (f : ℕ) → page ≡ Some f → x / 256 ≡ o → v.modified f ≡ true → Unmarked v w f → StoresOne v w before (set before x (get_or words f 0)) words o x page true
  stores_yes w page f is at on un = record {
    told = sym (and_from _ _ (eq-eqb _ _ at) (ap (dirty_in v.modified) is ∙ on));
    store = ap (λ z. set before x (word_of words z)) (sym is);
    held = un.held;
    marks = un.marks ∙ ap (unmarked_in v.modified) (sym is);
  }

-- a frame that holds none of the pages below n
pub held_below_none : (records : List (Option ℕ)) (o f n : ℕ) → ((k : ℕ) → k < n → get_or records k None ≡ Some f → ⊥) → held_below records o f n ≡ false
unfolding held_below
held_below_none records o f zero far = refl
held_below_none records o f (suc n) far =
    or_from _ _ (and_right (eqb (n / 256) o) _ (not_there (get_or records n None) (far n (omega arith)))) (held_below_none records o f n (λ k h. far k (omega arith)))
  where
    not_there : (page : Option ℕ) → (page ≡ Some f → ⊥) → is_frame f page ≡ false
    not_there None h = refl
    not_there (Some e) h = ne_eqb e f (λ q. h (ap Some q))

held_below_more : (records : List (Option ℕ)) (o g n : ℕ) → held_below records o g (n + 1) ≡ ((eqb (n / 256) o && is_frame g (get_or records n None)) || held_below records o g n)
unfolding held_below
held_below_more records o g n = rw add-one

-- one frame more leaves the set
marks_stored : (a h : Bool) (g f : ℕ) → ((a && not h) && not (eqb g f)) ≡ (a && not ((true && eqb f g) || h))
marks_stored a h g f = ⊎_elim
    (λ (e : g ≡ f). ap (λ z. (a && not h) && not z) (eq-eqb g f e) ∙ both_off a h ∙ ap (λ z. a && not (z || h)) (sym (eq-eqb f g (sym e))))
    (λ (e : g ≡ f → ⊥). ap (λ z. (a && not h) && not z) (ne_eqb g f e) ∙ both_on a h ∙ ap (λ z. a && not (z || h)) (sym (ne_eqb f g (λ q. e (sym q)))))
    (cases_eq g f)
  where
    both_off : (a h : Bool) → ((a && not h) && false) ≡ (a && false)
    both_off true true = refl
    both_off true false = refl
    both_off false h = refl

    both_on : (a h : Bool) → ((a && not h) && true) ≡ (a && not h)
    both_on true true = refl
    both_on true false = refl
    both_on false h = refl

-- a page that is not due does not change the set
marks_kept : (dirty : ℕ → Bool) (o n g : ℕ) (page : Option ℕ) (h : Bool) → due dirty o n page ≡ false → (dirty g && not h) ≡ (dirty g && not ((eqb (n / 256) o && is_frame g page) || h))
marks_kept dirty o n g page h e = ⊎_elim
    (λ (at : eqb (n / 256) o ≡ true).
    of_object page (sym (ap (λ z. z && dirty_in dirty page) at) ∙ e) ∙ ap (λ z. dirty g && not ((z && is_frame g page) || h)) (sym at))
    (λ (at : eqb (n / 256) o ≡ false). ap (λ z. dirty g && not ((z && is_frame g page) || h)) (sym at))
    (cases_Bool (eqb (n / 256) o))
  where
    of_object : (page : Option ℕ) → dirty_in dirty page ≡ false → (dirty g && not h) ≡ (dirty g && not ((true && is_frame g page) || h))
    of_object None d = refl
    of_object (Some f) d = ⊎_elim
        (λ (q : f ≡ g). let off : dirty g ≡ false = ap dirty (sym q) ∙ d in ap (λ z. z && not h) off ∙ sym (ap (λ z. z && not ((true && eqb f g) || h)) off))
        (λ (q : f ≡ g → ⊥). ap (λ z. dirty g && not (z || h)) (sym (ne_eqb f g q)))
        (cases_eq f g)

module _ (v : View) (before words : List ℕ) (records : List (Option ℕ)) (o : ℕ) where
  pub stores_none : StoresBelow v v before before words records o 0 0
  unfolding held_below
  stores_none = record {
    told = sym (tally_none (λ x. due v.modified o x (get_or records x None)));
    long = refl;
    done = λ k h. absurd (omega arith);
    rest = λ k h. refl;
    held = λ a b. refl;
    marks = λ g. same (v.modified g);
  }
    where
      same : (b : Bool) → b ≡ (b && true)
      same true = refl
      same false = refl

  module _ (one : OnePageEach records) (w x : View) (mid after : List ℕ) (n count : ℕ) (below : StoresBelow v w before mid words records o n count) where
    -- the frame of the page at n is modified as it was at the start
    due_same : due w.modified o n (get_or records n None) ≡ due v.modified o n (get_or records n None)
    due_same = ap (λ z. eqb (n / 256) o && z) (at (get_or records n None) refl)
      where
        at : (page : Option ℕ) → get_or records n None ≡ page → dirty_in w.modified page ≡ dirty_in v.modified page
        at None e = refl
        at (Some f) e = below.marks f ∙ ap (λ z. v.modified f && not z) (held_below_none records o f n (λ k h q. let same = one.one k n f q e in omega arith)) ∙ and_true (v.modified f)
          where
            and_true : (b : Bool) → (b && true) ≡ b
            and_true true = refl
            and_true false = refl

    module _ (b : Bool) (step : StoresOne w x mid after words o n (get_or records n None) b) where
      is_due : b ≡ due v.modified o n (get_or records n None)
      is_due = step.told ∙ due_same

      -- the word at n, and all others
      word_at : n < length before → get_or after n 0 ≡ cond (due v.modified o n (get_or records n None)) (word_of words (get_or records n None)) (get_or before n 0)
      word_at fits = ap (λ z. get_or z n 0) step.store ∙ ⊎_elim
          (λ (e : b ≡ true). ap (λ z. get_or (cond z (set mid n (word_of words (get_or records n None))) mid) n 0) e
          ∙ get_or-set_same mid n (word_of words (get_or records n None)) 0 (omega (arith, below.long))
          ∙ sym (cond-true _ _ _ (sym is_due ∙ e)))
          (λ (e : b ≡ false). ap (λ z. get_or (cond z (set mid n (word_of words (get_or records n None))) mid) n 0) e
          ∙ below.rest n (omega arith)
          ∙ sym (cond-false _ _ _ (sym is_due ∙ e)))
          (cases_Bool b)

      word_far : (k : ℕ) → (k ≡ n → ⊥) → get_or after k 0 ≡ get_or mid k 0
      word_far k far = ap (λ z. get_or z k 0) step.store ∙ ⊎_elim
          (λ (e : b ≡ true). ap (λ z. get_or (cond z (set mid n (word_of words (get_or records n None))) mid) k 0) e ∙ get_or-set_other mid n k _ 0 far)
          (λ (e : b ≡ false). ap (λ z. get_or (cond z (set mid n (word_of words (get_or records n None))) mid) k 0) e)
          (cases_Bool b)

      marks_after : (g : ℕ) → x.modified g ≡ (v.modified g && not (held_below records o g (n + 1)))
      marks_after g = ap (λ z. z g) step.marks ∙ ⊎_elim
          (λ (e : b ≡ true). ap (λ z. cond z (unmarked_in w.modified (get_or records n None)) w.modified g) e ∙ on (get_or records n None) refl (sym is_due ∙ e))
          (λ (e : b ≡ false). ap (λ z. cond z (unmarked_in w.modified (get_or records n None)) w.modified g) e ∙ below.marks g
          ∙ marks_kept v.modified o n g (get_or records n None) (held_below records o g n) (sym is_due ∙ e))
          (cases_Bool b)
          ∙ ap (λ z. v.modified g && not z) (sym (held_below_more records o g n))
        where
          on : (page : Option ℕ) → get_or records n None ≡ page → due v.modified o n page ≡ true → unmarked_in w.modified page g ≡ (v.modified g && not ((eqb (n / 256) o && is_frame g page) || held_below records o g n))
          on None e d = absurd (both_ways false refl (and_parts (eqb (n / 256) o) false d).1)
          on (Some f) e d =
              ap (λ z. z && not (eqb g f)) (below.marks g) ∙ marks_stored (v.modified g) (held_below records o g n) g f
              ∙ ap (λ z. v.modified g && not ((z && eqb f g) || held_below records o g n)) (sym (and_parts (eqb (n / 256) o) (v.modified f) d).0)

      pub stores_more : n < length before → StoresBelow v x before after words records o (n + 1) (count + cond b 1 0)
      stores_more fits = record {
        told = ⊎_elim
            (λ (e : b ≡ true). ap (λ z. count + cond z 1 0) e ∙ ap (λ z. z + 1) below.told ∙ sym (tally_hit test n (sym is_due ∙ e)))
            (λ (e : b ≡ false). ap (λ z. count + cond z 1 0) e ∙ add-zero count ∙ below.told ∙ sym (tally_miss test n (sym is_due ∙ e)))
            (cases_Bool b);
        long = ap length step.store ∙ ⊎_elim
            (λ (e : b ≡ true). ap (λ z. length (cond z (set mid n (word_of words (get_or records n None))) mid)) e ∙ length-set mid n _ ∙ below.long)
            (λ (e : b ≡ false). ap (λ z. length (cond z (set mid n (word_of words (get_or records n None))) mid)) e ∙ below.long)
            (cases_Bool b);
        done = λ k h. ⊎_elim
            (λ (e : k ≡ n). rw e (word_at fits))
            (λ (e : k ≡ n → ⊥). word_far k e ∙ below.done k (omega arith))
            (cases_eq k n);
        rest = λ k h. word_far k (omega arith) ∙ below.rest k (omega arith);
        held = λ c d. step.held c d ∙ below.held c d;
        marks = marks_after;
      }
        where
          test : ℕ → Bool
          test y = due v.modified o y (get_or records y None)

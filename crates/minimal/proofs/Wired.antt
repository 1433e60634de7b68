-- Empty slots, and whether eight other places are wired. Assumes nothing.
use Rattle.std.proofs.Common.{◌≡◌, ℕ, zero, suc, ◌<◌, ◌≤◌, Bool, true, false, cond, not, ◌||◌, eqb, ltb, List, length, get_or, replicate, Some, None, Option, sym, refl, ap, ◌∙◌, subst, ⊎_elim, arith}
use Rattle.std.specs.Prelude.{IfSome, IsNone, ◌↔◌, position, take}
use Rattle.std.proofs.lemmas.List.{get_or-take, length-take-le}
use Rattle.std.proofs.lemmas.List.Quantifiers.{position-Some}
use mathlib.Core.Path.{fun_ext}
use Rattle.std.proofs.lemmas.Bool.{cases_lt, cond-true, cond-false, and_from, and_parts, eqb-true, eq-eqb, both_ways, ltb-true, lt-ltb, le-ltb, or_left, or_right}
use Rattle.pmap.specs.Meaning.{is_wired, Cleared, Crowded}
use Rattle.pmap.proofs.Crowds.{pigeonhole}
use Rattle.minimal.specs.declared.entry.Entry.{Entry}
use Rattle.minimal.specs.declared.entry.Held.{Held}
use Rattle.minimal.specs.Entries.{is_at, mapping_of, after, vacated, is_room, found, held_in, shown, place_fits, entry_of, Fits, Sound, Placed, Room}
use Rattle.minimal.proofs.Search.{found_none, found_miss, no_position}
use Rattle.minimal.proofs.Holding.{one_place, place, found_at, found_place, found_is}

-- nothing is held and no frame is marked

blank : {A : Type 0} (n i : ℕ) (a : A) → get_or (replicate n a) i a ≡ a
blank zero i a = refl
blank (suc n) zero a = refl
blank (suc n) (suc i) a = blank n i a

found_blank : (n s p : ℕ) → found (replicate n None) s p ≡ None
found_blank zero s p = found_none s p
found_blank (suc n) s p = found_miss None (replicate n None) s p refl ∙ found_blank n s p

pub cleared : Cleared (shown (replicate 9 None) (replicate 256 false))
cleared = record { held = λ a b. ap mapping_of (found_blank 9 a b); marks = fun_ext λ f. blank 256 f false }

pub cleared_sound : Sound (replicate 9 None)
cleared_sound =
    record {
      long = refl;
      alone = λ i j s p h k. absurd (both_ways false refl (sym (ap (λ x. is_at x s p) (blank 9 i None)) ∙ h));
      fits = λ k. subst (Fits k) (sym (blank 9 k None)) (refl, refl);
    }

pub cleared_placed : Placed (replicate 9 None)
cleared_placed k = ap place_fits (blank 9 k None)

-- what is found stands in a slot of its kind
module _ (xs : List (Option Entry)) (sound : Sound xs) (s p : ℕ) (e : Entry) (is : found xs s p ≡ Some e) where
  at_place : is_at (found xs s p) s p ≡ true
  at_place = ⊎_elim (λ none. let z : ◌≡◌ {A = ℕ} 0 1 = cc in absurd (omega arith)) (λ h. h) (found_at xs s p)

  in_slot : get_or xs (place xs s p) None ≡ Some e
  in_slot = (found_place xs s p at_place).0 ∙ is

  kind : Fits (place xs s p) (Some e)
  kind = subst (Fits (place xs s p)) in_slot (sound.fits (place xs s p))

  pub found_here : is_at (Some e) s p ≡ true
  found_here = ap (λ x. is_at x s p) (sym is) ∙ at_place

  pub found_frame : e.frame < 256
  found_frame = ltb-true e.frame 256 kind.1

  pub found_place_of : (e.space ≡ s) × (e.page ≡ p)
  found_place_of = let q = and_parts (eqb e.space s) (eqb e.page p) found_here in (eqb-true e.space s q.0, eqb-true e.page p q.1)

  wired_slot : e.wired ≡ true → place xs s p < 8
  wired_slot w = ltb-true (place xs s p) 8 (sym kind.0 ∙ w)

-- eight slots with no room are eight other places

space_in : Option Entry → ℕ
space_in None = 0
space_in (Some e) = e.space

page_in : Option Entry → ℕ
page_in None = 0
page_in (Some e) = e.page

own : (x : Option Entry) (s p : ℕ) → is_room x s p ≡ false → is_at x (space_in x) (page_in x) ≡ true
unfolding space_in page_in
own None s p h = absurd (both_ways true h refl)
own (Some e) s p h = and_from (eqb e.space e.space) (eqb e.page e.page) (eq-eqb e.space e.space refl) (eq-eqb e.page e.page refl)

elsewhere : (x : Option Entry) (s p : ℕ) → is_room x s p ≡ false → space_in x ≡ s → page_in x ≡ p → ⊥
unfolding space_in page_in
elsewhere None s p h q r = both_ways true h refl
elsewhere (Some e) s p h q r = both_ways (is_at (Some e) s p) h (and_from (eqb e.space s) (eqb e.page p) (eq-eqb e.space s q) (eq-eqb e.page p r))

wired_there : (k : ℕ) (x : Option Entry) (s p : ℕ) → k < 8 → Fits k x → is_room x s p ≡ false → is_wired (mapping_of x) ≡ true
wired_there k None s p h fits no_room = absurd (both_ways true no_room refl)
wired_there k (Some e) s p h fits no_room = fits.0 ∙ lt-ltb k 8 h

pub crowded : (xs : List (Option Entry)) (s p : ℕ) → Sound xs → ((k : ℕ) → k < 8 → is_room (get_or xs k None) s p ≡ false) → Crowded (held_in xs) s p
crowded xs s p sound full =
    record {
      space = λ i. space_in (get_or xs i None);
      page = λ i. page_in (get_or xs i None);
      apart = λ i j hi hj es ep. sound.alone i j (space_in (get_or xs j None)) (page_in (get_or xs j None))
          (subst (λ a. is_at (get_or xs i None) a (page_in (get_or xs j None)) ≡ true) es (subst (λ b. is_at (get_or xs i None) (space_in (get_or xs i None)) b ≡ true) ep (own (get_or xs i None) s p (full i hi))))
          (own (get_or xs j None) s p (full j hj));
      elsewhere = λ i h. elsewhere (get_or xs i None) s p (full i h);
      wired = λ i h.
          ap (λ x. is_wired (mapping_of x)) (found_is xs i (space_in (get_or xs i None)) (page_in (get_or xs i None)) sound.alone (own (get_or xs i None) s p (full i h)))
          ∙ wired_there i (get_or xs i None) s p h (sound.fits i) (full i h);
    }

-- a slot with room: eight other wired places would not fit into the other seven

held_entry : (x : Option Entry) → is_wired (mapping_of x) ≡ true → (e : Entry) × (x ≡ Some e) × (e.wired ≡ true)
held_entry None h = absurd (both_ways false refl h)
held_entry (Some e) h = (e, refl, h)

room_at : (x : Option Entry) (s p a b : ℕ) → is_room x s p ≡ true → is_at x a b ≡ true → (a ≡ s) × (b ≡ p)
room_at None s p a b room h = absurd (both_ways false refl h)
room_at (Some e) s p a b room h = one_place (Some e) a b s p h room

pub not_crowded : (xs : List (Option Entry)) (s p at : ℕ) → Sound xs → at < 8 → is_room (get_or xs at None) s p ≡ true → Crowded (held_in xs) s p → ⊥
not_crowded xs s p at sound small room c =
    let less = pigeonhole 8 9 slot below apart in omega arith
  where
    slot : ℕ → ℕ
    slot i = cond (ltb i 8) (place xs (c.space i) (c.page i)) at

    first : (i : ℕ) → i < 8 → slot i ≡ place xs (c.space i) (c.page i)
    first i h = cond-true (ltb i 8) (place xs (c.space i) (c.page i)) at (lt-ltb i 8 h)

    last : (i : ℕ) → 8 ≤ i → slot i ≡ at
    last i h = cond-false (ltb i 8) (place xs (c.space i) (c.page i)) at (le-ltb i 8 h)

    held : (i : ℕ) → i < 8 → (e : Entry) × (found xs (c.space i) (c.page i) ≡ Some e) × (e.wired ≡ true)
    held i h = held_entry (found xs (c.space i) (c.page i)) (c.wired i h)

    there : (i : ℕ) → i < 8 → is_at (get_or xs (slot i) None) (c.space i) (c.page i) ≡ true
    there i h =
        let e = held i h in
        ap (λ k. is_at (get_or xs k None) (c.space i) (c.page i)) (first i h)
        ∙ ap (λ x. is_at x (c.space i) (c.page i)) (in_slot xs sound (c.space i) (c.page i) e.0 e.1)
        ∙ found_here xs sound (c.space i) (c.page i) e.0 e.1

    below : (i : ℕ) → i < 9 → slot i < 8
    below i h = ⊎_elim
        (λ l. let e = held i l in let w = wired_slot xs sound (c.space i) (c.page i) e.0 e.1 e.2 in omega (arith, first i l))
        (λ l. omega (arith, last i l))
        (cases_lt i 8)

    other : (i j : ℕ) → i < 8 → 8 ≤ j → slot i ≡ slot j → ⊥
    other i j hi hj e =
        let q = room_at (get_or xs at None) s p (c.space i) (c.page i) room (subst (λ k. is_at (get_or xs k None) (c.space i) (c.page i) ≡ true) (e ∙ last j hj) (there i hi)) in
        c.elsewhere i hi q.0 q.1

    apart : (i j : ℕ) → i < 9 → j < 9 → slot i ≡ slot j → i ≡ j
    apart i j hi hj e = ⊎_elim
        (λ l. ⊎_elim
        (λ m. let q = one_place (get_or xs (slot j) None) (c.space i) (c.page i) (c.space j) (c.page j) (subst (λ k. is_at (get_or xs k None) (c.space i) (c.page i) ≡ true) e (there i l)) (there j m) in c.apart i j l m q.0 q.1)
        (λ m. absurd (other i j l m e))
        (cases_lt j 8))
        (λ l. ⊎_elim (λ m. absurd (other j i m l (sym e))) (λ m. omega arith) (cases_lt j 8))
        (cases_lt i 8)

-- the slot that an entry can go into

pub held_placed : (h : Held) → place_fits (Some (entry_of h)) ≡ true
held_placed h = and_from (ltb h.place.space 4) (ltb h.place.page 262144) (lt-ltb h.place.space 4 h.place.space_fits) (lt-ltb h.place.page 262144 h.place.page_fits)

room_empties : (x : Option Entry) (s p : ℕ) → is_room x s p ≡ true → after (vacated s p) x ≡ None
room_empties None s p h = refl
room_empties (Some e) s p h = cond-true (is_at (Some e) s p || not e.wired) None (Some e) (or_left (is_at (Some e) s p) (not e.wired) h)

pub room_wired : (xs : List (Option Entry)) (at : ℕ) (e : Entry) → at < 8 → e.wired ≡ true → e.frame < 256 → is_room (get_or xs at None) e.space e.page ≡ true → Room xs at e
room_wired xs at e small wired fits room =
    record { within = omega arith; fits = (wired ∙ sym (lt-ltb at 8 small), lt-ltb e.frame 256 fits); free = room_empties (get_or xs at None) e.space e.page room }

latest_empties : (x : Option Entry) (s p : ℕ) → Fits 8 x → after (vacated s p) x ≡ None
latest_empties None s p h = refl
latest_empties (Some e) s p h = cond-true (is_at (Some e) s p || not e.wired) None (Some e) (or_right (is_at (Some e) s p) (not e.wired) (ap not h.0))

pub room_latest : (xs : List (Option Entry)) (e : Entry) → Sound xs → e.wired ≡ false → e.frame < 256 → Room xs 8 e
room_latest xs e sound wired fits =
    record { within = omega arith; fits = (wired, lt-ltb e.frame 256 fits); free = latest_empties (get_or xs 8 None) e.space e.page (sound.fits 8) }

-- whether there is one
module _ (xs : List (Option Entry)) (e : Entry) (sound : Sound xs) (fits : e.frame < 256) where
  abbrev room : Option Entry → Bool
  room x = is_room x e.space e.page

  eight : length (take 8 xs) ≡ 8
  eight = length-take-le 8 xs (omega (arith, sound.long))

  abbrev Answers : Option ℕ → Type 0
  Answers r = IfSome r (λ at. Room xs at e) × (IsNone r ↔ ((e.wired ≡ true) × Crowded (held_in xs) e.space e.page))

  pub wired_room : (r : Option ℕ) → e.wired ≡ true → r ≡ position room (take 8 xs) → Answers r
  wired_room None w is =
      let full : (k : ℕ) → k < 8 → room (get_or xs k None) ≡ false = λ k small. ap room (sym (get_or-take 8 xs k None small)) ∙ no_position room (take 8 xs) None k is (omega (arith, eight)) in
      (tt, ((λ _. (w, crowded xs e.space e.page sound full)), λ _. refl))
  wired_room (Some at) w is =
      let found = position-Some room (take 8 xs) at None (sym is) in
      let small : at < 8 = omega (arith, eight) in
      let free : room (get_or xs at None) ≡ true = ap room (sym (get_or-take 8 xs at None small)) ∙ found.1 in
      (room_wired xs at e small w fits free, ((λ n. absurd (both_ways true n refl)), λ c. absurd (not_crowded xs e.space e.page at sound small free c.1)))

  pub latest_room : e.wired ≡ false → Answers (Some 8)
  latest_room w = (room_latest xs e sound w fits, ((λ n. absurd (both_ways true n refl)), λ c. absurd (both_ways e.wired w c.0)))

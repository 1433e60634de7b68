-- What the slots hold after a change of every slot, and after an entry is put into one. Assumes nothing.
use Rattle.std.proofs.Common.{◌≡◌, ℕ, zero, suc, ◌<◌, Bool, true, false, cond, not, ◌&&◌, ◌||◌, eqb, ◌⊎◌, List, [], ◌∷◌, map, length, get_or, set, Some, None, Option, sym, refl, ap, ◌∙◌, subst, inl, inr, ⊎_elim, arith, length-set}
use Rattle.std.proofs.Math.ListN.{get_or-map}
use Rattle.std.proofs.lemmas.List.{length-map, get_or-set_same, get_or-set_other}
use Rattle.std.proofs.lemmas.Bool.{cases_Bool, cases_eq, cond-true, cond-false, and_parts, and_from, eqb-true, eq-eqb, both_ways}
use Rattle.pmap.specs.Ranges.{fits_place}
use Rattle.minimal.specs.declared.entry.Entry.{Entry}
use Rattle.minimal.specs.Entries.{is_at, after, vacated, removed, lowered, dropped, found, frame_fits, place_fits, Fits, Alone, Sound, Placed}
use Rattle.minimal.proofs.Search.{found_none, found_hit, found_miss}

-- at one slot

pub one_place : (x : Option Entry) (a b s p : ℕ) → is_at x a b ≡ true → is_at x s p ≡ true → (a ≡ s) × (b ≡ p)
one_place None a b s p h k = absurd (both_ways false refl h)
one_place (Some e) a b s p h k =
    let x = and_parts (eqb e.space a) (eqb e.page b) h in
    let y = and_parts (eqb e.space s) (eqb e.page p) k in
    (sym (eqb-true e.space a x.0) ∙ eqb-true e.space s y.0, sym (eqb-true e.page b x.1) ∙ eqb-true e.page p y.1)

cond_cases : {A : Type 0} (b : Bool) (x y : A) → (cond b x y ≡ x) ⊎ (cond b x y ≡ y)
cond_cases true x y = inl refl
cond_cases false x y = inr refl

-- a change empties a slot, or leaves the place and the kind of its entry as they are, and its frame in range
pub record Tame (change : Entry → Option Entry) : Type 0 where
  pub each : (e : Entry) → (change e ≡ None) ⊎ ((d : Entry) × (change e ≡ Some d) × (d.space ≡ e.space) × (d.page ≡ e.page) × (d.wired ≡ e.wired) × (frame_fits (Some e) ≡ true → frame_fits (Some d) ≡ true))

pub tame_vacated : (s p : ℕ) → Tame (vacated s p)
tame_vacated s p = record { each = λ e. ⊎_elim (λ q. inl q) (λ q. inr (e, q, refl, refl, refl, λ h. h)) (cond_cases (is_at (Some e) s p || not e.wired) None (Some e)) }

pub tame_removed : (s p : ℕ) → Tame (removed s p)
tame_removed s p = record { each = λ e. ⊎_elim (λ q. inl q) (λ q. inr (e, q, refl, refl, refl, λ h. h)) (cond_cases (is_at (Some e) s p) None (Some e)) }

pub tame_lowered : (s p : ℕ) → Tame (lowered s p)
tame_lowered s p =
    record {
      each = λ e.
          let low : Entry = record { space = e.space; page = e.page; frame = e.frame; protection = 1; wired = e.wired } in
          ⊎_elim (λ q. inr (low, q, refl, refl, refl, λ h. h)) (λ q. inr (e, q, refl, refl, refl, λ h. h)) (cond_cases (is_at (Some e) s p) (Some low) (Some e));
    }

pub tame_dropped : (f : ℕ) → Tame (dropped f)
tame_dropped f = record { each = λ e. ⊎_elim (λ q. inl q) (λ q. inr (e, q, refl, refl, refl, λ h. h)) (cond_cases (eqb e.frame f) None (Some e)) }

-- the slot of a place

pub place : List (Option Entry) → ℕ → ℕ → ℕ
place [] s p = 0
place (x ∷ xs) s p = cond (is_at x s p) 0 (suc (place xs s p))

-- what is found stands at the place, in its slot
pub found_at : (xs : List (Option Entry)) (s p : ℕ) → (found xs s p ≡ None) ⊎ (is_at (found xs s p) s p ≡ true)
found_at [] s p = inl (found_none s p)
found_at (x ∷ xs) s p =
    ⊎_elim
    (λ h. inr (ap (λ y. is_at y s p) (found_hit x xs s p h) ∙ h))
    (λ h. subst (λ y. (y ≡ None) ⊎ (is_at y s p ≡ true)) (sym (found_miss x xs s p h)) (found_at xs s p))
    (cases_Bool (is_at x s p))

pub found_place : (xs : List (Option Entry)) (s p : ℕ) → is_at (found xs s p) s p ≡ true → (get_or xs (place xs s p) None ≡ found xs s p) × (place xs s p < length xs)
unfolding place
found_place [] s p h = absurd (both_ways false refl (sym (ap (λ y. is_at y s p) (found_none s p)) ∙ h))
found_place (x ∷ xs) s p h =
    ⊎_elim
    (λ e. let at = cond-true (is_at x s p) 0 (suc (place xs s p)) e in
    (ap (λ k. get_or (x ∷ xs) k None) at ∙ sym (found_hit x xs s p e), omega (arith, at)))
    (λ e.
    let at = cond-false (is_at x s p) 0 (suc (place xs s p)) e in
    let miss = found_miss x xs s p e in
    let rest = found_place xs s p (sym (ap (λ y. is_at y s p) miss) ∙ h) in
    (ap (λ k. get_or (x ∷ xs) k None) at ∙ rest.0 ∙ sym miss, omega (arith, at, rest.1)))
    (cases_Bool (is_at x s p))

-- a slot at the place is found
found_some : (xs : List (Option Entry)) (i s p : ℕ) → is_at (get_or xs i None) s p ≡ true → is_at (found xs s p) s p ≡ true
found_some [] i s p h = absurd (both_ways false refl h)
found_some (x ∷ xs) zero s p h = ap (λ y. is_at y s p) (found_hit x xs s p h) ∙ h
found_some (x ∷ xs) (suc i) s p h =
    ⊎_elim
    (λ e. ap (λ y. is_at y s p) (found_hit x xs s p e) ∙ e)
    (λ e. ap (λ y. is_at y s p) (found_miss x xs s p e) ∙ found_some xs i s p h)
    (cases_Bool (is_at x s p))

pub found_is : (xs : List (Option Entry)) (i s p : ℕ) → Alone xs → is_at (get_or xs i None) s p ≡ true → found xs s p ≡ get_or xs i None
found_is xs i s p alone h =
    let some = found_some xs i s p h in
    let at = found_place xs s p some in
    sym at.0 ∙ ap (λ k. get_or xs k None) (alone (place xs s p) i s p (ap (λ y. is_at y s p) at.0 ∙ some) h)

alone_tail : (x : Option Entry) (xs : List (Option Entry)) → Alone (x ∷ xs) → Alone xs
alone_tail x xs alone i j s p h k = let e = alone (suc i) (suc j) s p h k in omega arith

alone_head : (x : Option Entry) (xs : List (Option Entry)) (s p : ℕ) → Alone (x ∷ xs) → is_at x s p ≡ true → found xs s p ≡ None
alone_head x xs s p alone h =
    ⊎_elim
    (λ e. e)
    (λ e. let at = found_place xs s p e in
    let z : 0 ≡ suc (place xs s p) = alone 0 (suc (place xs s p)) s p h (ap (λ y. is_at y s p) at.0 ∙ e) in
    absurd (omega arith))
    (found_at xs s p)

-- after a change of every slot
module _ (change : Entry → Option Entry) (tame : Tame change) where
  pub keeps : (x : Option Entry) → (after change x ≡ None) ⊎ ((a b : ℕ) → is_at (after change x) a b ≡ is_at x a b)
  keeps None = inl refl
  keeps (Some e) =
      ⊎_elim
      (λ q. inl q)
      (λ d. inr (λ a b. ap (λ y. is_at y a b) d.1 ∙ ap (λ z. eqb z a && eqb d.0.page b) d.2 ∙ ap (λ z. eqb e.space a && eqb z b) d.3))
      (tame.each e)

  pub was_at : (x : Option Entry) (a b : ℕ) → is_at (after change x) a b ≡ true → is_at x a b ≡ true
  was_at x a b h = ⊎_elim (λ q. absurd (both_ways false refl (sym (ap (λ y. is_at y a b) q) ∙ h))) (λ q. sym (q a b) ∙ h) (keeps x)

  pub still_fits : (k : ℕ) (x : Option Entry) → Fits k x → Fits k (after change x)
  still_fits k None h = (refl, refl)
  still_fits k (Some e) h =
      ⊎_elim
      (λ q. subst (Fits k) (sym q) (refl, refl))
      (λ d. subst (Fits k) (sym d.1) (d.4 ∙ h.0, d.5 h.1))
      (tame.each e)

  still_placed : (x : Option Entry) → place_fits x ≡ true → place_fits (after change x) ≡ true
  still_placed None h = refl
  still_placed (Some e) h =
      ⊎_elim
      (λ q. ap place_fits q)
      (λ d. ap place_fits d.1 ∙ ap (λ z. fits_place z d.0.page) d.2 ∙ ap (fits_place e.space) d.3 ∙ h)
      (tame.each e)

  pub found_after : (xs : List (Option Entry)) (s p : ℕ) → Alone xs → found (map (after change) xs) s p ≡ after change (found xs s p)
  found_after [] s p alone = found_none s p ∙ sym (ap (after change) (found_none s p))
  found_after (x ∷ xs) s p alone =
      let rest = found_after xs s p (alone_tail x xs alone) in
      ⊎_elim
      (λ h. ⊎_elim
      (λ q. found_miss (after change x) (map (after change) xs) s p (ap (λ y. is_at y s p) q) ∙ rest ∙ ap (after change) (alone_head x xs s p alone h) ∙ sym q ∙ ap (after change) (sym (found_hit x xs s p h)))
      (λ q. found_hit (after change x) (map (after change) xs) s p (q s p ∙ h) ∙ ap (after change) (sym (found_hit x xs s p h)))
      (keeps x))
      (λ h. found_miss (after change x) (map (after change) xs) s p (not_at h) ∙ rest ∙ ap (after change) (sym (found_miss x xs s p h)))
      (cases_Bool (is_at x s p))
    where
      not_at : is_at x s p ≡ false → is_at (after change x) s p ≡ false
      not_at h = ⊎_elim (λ q. absurd (both_ways (is_at x s p) h (was_at x s p q))) (λ q. q) (cases_Bool (is_at (after change x) s p))

  pub after_sound : (xs : List (Option Entry)) → Sound xs → Sound (map (after change) xs)
  after_sound xs sound =
      record {
        long = length-map xs (after change) ∙ sound.long;
        alone = λ i j s p h k. sound.alone i j s p (before i s p h) (before j s p k);
        fits = λ k. subst (Fits k) (sym (get_or-map (after change) xs k None)) (still_fits k (get_or xs k None) (sound.fits k));
      }
    where
      before : (i s p : ℕ) → is_at (get_or (map (after change) xs) i None) s p ≡ true → is_at (get_or xs i None) s p ≡ true
      before i s p h = was_at (get_or xs i None) s p (sym (ap (λ y. is_at y s p) (get_or-map (after change) xs i None)) ∙ h)

  pub after_placed : (xs : List (Option Entry)) → Placed xs → Placed (map (after change) xs)
  after_placed xs placed k = ap place_fits (get_or-map (after change) xs k None) ∙ still_placed (get_or xs k None) (placed k)

-- after an entry is put into an empty slot, at a place that no slot holds

pub found_put : (xs : List (Option Entry)) (i : ℕ) (e : Entry) (s p : ℕ) → i < length xs → get_or xs i None ≡ None → (is_at (Some e) s p ≡ true → found xs s p ≡ None) → found (set xs i (Some e)) s p ≡ cond (is_at (Some e) s p) (Some e) (found xs s p)
found_put [] i e s p h free none = absurd (omega arith)
found_put (x ∷ xs) zero e s p h free none =
    ⊎_elim
    (λ q. found_hit (Some e) xs s p q ∙ sym (cond-true (is_at (Some e) s p) (Some e) (found (x ∷ xs) s p) q))
    (λ q. found_miss (Some e) xs s p q ∙ sym (found_miss x xs s p (ap (λ y. is_at y s p) free)) ∙ sym (cond-false (is_at (Some e) s p) (Some e) (found (x ∷ xs) s p) q))
    (cases_Bool (is_at (Some e) s p))
found_put (x ∷ xs) (suc i) e s p h free none =
    ⊎_elim
    (λ q. found_hit x (set xs i (Some e)) s p q ∙ sym (found_hit x xs s p q) ∙ sym (cond-false (is_at (Some e) s p) (Some e) (found (x ∷ xs) s p) (apart q)))
    (λ q. found_miss x (set xs i (Some e)) s p q
    ∙ found_put xs i e s p (omega arith) free (λ r. sym (found_miss x xs s p q) ∙ none r)
    ∙ ap (cond (is_at (Some e) s p) (Some e)) (sym (found_miss x xs s p q)))
    (cases_Bool (is_at x s p))
  where
    apart : is_at x s p ≡ true → is_at (Some e) s p ≡ false
    apart q = ⊎_elim
        (λ r. absurd (both_ways false refl (sym (ap (λ y. is_at y s p) (sym (found_hit x xs s p q) ∙ none r)) ∙ q)))
        (λ r. r)
        (cases_Bool (is_at (Some e) s p))

pub put_sound : (xs : List (Option Entry)) (i : ℕ) (e : Entry) → Sound xs → i < 9 → Fits i (Some e) → found xs e.space e.page ≡ None → Sound (set xs i (Some e))
put_sound xs i e sound h fits none =
    record {
      long = length-set xs i (Some e) ∙ sound.long;
      alone = λ j k s p x y. ⊎_elim
          (λ m. ⊎_elim (λ n. m.0 ∙ sym n.0) (λ n. absurd (twice k s p m.1 n)) (put_at k s p y))
          (λ m. ⊎_elim (λ n. absurd (twice j s p n.1 m)) (λ n. sound.alone j k s p m n) (put_at k s p y))
          (put_at j s p x);
      fits = λ k. ⊎_elim
          (λ q. subst (λ z. Fits z (get_or (set xs i (Some e)) z None)) (sym q) (subst (Fits i) (sym here) fits))
          (λ q. subst (Fits k) (sym (get_or-set_other xs i k (Some e) None q)) (sound.fits k))
          (cases_eq k i);
    }
  where
    here : get_or (set xs i (Some e)) i None ≡ Some e
    here = get_or-set_same xs i (Some e) None (omega (arith, sound.long))

    put_at : (k s p : ℕ) → is_at (get_or (set xs i (Some e)) k None) s p ≡ true → ((k ≡ i) × (is_at (Some e) s p ≡ true)) ⊎ (is_at (get_or xs k None) s p ≡ true)
    put_at k s p x = ⊎_elim
        (λ q. inl (q, sym (ap (λ z. is_at z s p) (ap (λ z. get_or (set xs i (Some e)) z None) q ∙ here)) ∙ x))
        (λ q. inr (sym (ap (λ z. is_at z s p) (get_or-set_other xs i k (Some e) None q)) ∙ x))
        (cases_eq k i)

    twice : (k s p : ℕ) → is_at (Some e) s p ≡ true → is_at (get_or xs k None) s p ≡ true → ⊥
    twice k s p x y =
        let own = and_from (eqb e.space e.space) (eqb e.page e.page) (eq-eqb e.space e.space refl) (eq-eqb e.page e.page refl) in
        let same = one_place (Some e) s p e.space e.page x own in
        let there = subst (λ a. is_at (get_or xs k None) a e.page ≡ true) same.0 (subst (λ b. is_at (get_or xs k None) s b ≡ true) same.1 y) in
        both_ways false refl (sym (ap (λ z. is_at z e.space e.page) none) ∙ found_some xs k e.space e.page there)

pub put_placed : (xs : List (Option Entry)) (i : ℕ) (e : Entry) → Placed xs → i < length xs → place_fits (Some e) ≡ true → Placed (set xs i (Some e))
put_placed xs i e placed h fits k = ⊎_elim
    (λ q. ap (λ z. place_fits (get_or (set xs i (Some e)) z None)) q ∙ ap place_fits (get_or-set_same xs i (Some e) None h) ∙ fits)
    (λ q. ap place_fits (get_or-set_other xs i k (Some e) None q) ∙ placed k)
    (cases_eq k i)

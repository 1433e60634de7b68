-- What a change of the slots means as a pmap call. Assumes nothing.
use Rattle.std.proofs.Common.{◌≡◌, ℕ, Bool, true, false, cond, not, ◌||◌, eqb, List, map, set, Some, None, Option, sym, refl, ap, ◌∙◌, subst, inl, inr, ⊎_elim, arith}
use Rattle.std.proofs.Math.ListN.{get_or-map}
use Rattle.std.proofs.lemmas.List.{length-map}
use Rattle.std.proofs.lemmas.Bool.{cases_Bool, cond-true, cond-false, and_from, eq-eqb, both_ways, or_from, or_left, or_parts}
use Rattle.pmap.specs.Meaning.{is_wired, Elsewhere, Put, PutForgetting, Dropped, lowered, without, Stays}
use Rattle.minimal.specs.declared.entry.Entry.{Entry}
use Rattle.minimal.specs.Entries.{is_at, mapping_of, after, vacated, removed, lowered as lowered_at, dropped, found, shown, place_fits, Sound, Placed, Room, OnlyWired}
use Rattle.minimal.proofs.Holding.{one_place, tame_vacated, tame_removed, tame_lowered, tame_dropped, found_at, found_after, after_sound, after_placed, found_put, put_sound, put_placed}

module _ (xs : List (Option Entry)) (sound : Sound xs) (s p : ℕ) where
  -- what is found at another place does not stand at this one
  far : (a b : ℕ) → Elsewhere s p a b → is_at (found xs a b) s p ≡ false
  far a b other =
      ⊎_elim
      (λ none. ap (λ y. is_at y s p) none)
      (λ at. ⊎_elim (λ h. let q = one_place (found xs a b) a b s p at h in absurd (other q.0 q.1)) (λ h. h) (cases_Bool (is_at (found xs a b) s p)))
      (found_at xs a b)

  -- remove

  removes_it : (x : Option Entry) → is_at x s p ≡ true → after (removed s p) x ≡ None
  removes_it None h = refl
  removes_it (Some e) h = cond-true (is_at (Some e) s p) None (Some e) h

  not_removed : (x : Option Entry) → is_at x s p ≡ false → after (removed s p) x ≡ x
  not_removed None h = refl
  not_removed (Some e) h = cond-false (is_at (Some e) s p) None (Some e) h

  pub removes : (marks : List Bool) (ys : List (Option Entry)) → ys ≡ map (after (removed s p)) xs → Put (shown xs marks) (shown ys marks) s p None
  removes marks ys is =
      subst (λ zs. Put (shown xs marks) (shown zs marks) s p None) (sym is) (record {
        here = ap mapping_of (found_after (removed s p) (tame_removed s p) xs s p sound.alone
            ∙ ⊎_elim (λ none. ap (after (removed s p)) none) (λ at. removes_it (found xs s p) at) (found_at xs s p));
        others = λ a b other. ap mapping_of (found_after (removed s p) (tame_removed s p) xs a b sound.alone ∙ not_removed (found xs a b) (far a b other));
        marks = refl;
      })

  -- lower

  lower_at : (x : Option Entry) → is_at x s p ≡ true → mapping_of (after (lowered_at s p) x) ≡ lowered (mapping_of x)
  lower_at None h = refl
  lower_at (Some e) h =
      ap mapping_of (cond-true (is_at (Some e) s p) (Some (record { space = e.space; page = e.page; frame = e.frame; protection = 1; wired = e.wired })) (Some e) h)

  not_lowered : (x : Option Entry) → is_at x s p ≡ false → after (lowered_at s p) x ≡ x
  not_lowered None h = refl
  not_lowered (Some e) h =
      cond-false (is_at (Some e) s p) (Some (record { space = e.space; page = e.page; frame = e.frame; protection = 1; wired = e.wired })) (Some e) h

  pub lowers : (marks : List Bool) (ys : List (Option Entry)) → ys ≡ map (after (lowered_at s p)) xs → Put (shown xs marks) (shown ys marks) s p (lowered ((shown xs marks).held s p))
  lowers marks ys is =
      subst (λ zs. Put (shown xs marks) (shown zs marks) s p (lowered ((shown xs marks).held s p))) (sym is) (record {
        here = ap mapping_of (found_after (lowered_at s p) (tame_lowered s p) xs s p sound.alone)
            ∙ ⊎_elim
            (λ none. ap (λ x. mapping_of (after (lowered_at s p) x)) none ∙ sym (ap (λ x. lowered (mapping_of x)) none))
            (λ at. lower_at (found xs s p) at)
            (found_at xs s p);
        others = λ a b other. ap mapping_of (found_after (lowered_at s p) (tame_lowered s p) xs a b sound.alone ∙ not_lowered (found xs a b) (far a b other));
        marks = refl;
      })

  -- an entry is put at the place

  vacates : (x : Option Entry) → is_at x s p ≡ true → after (vacated s p) x ≡ None
  vacates None h = refl
  vacates (Some e) h = cond-true (is_at (Some e) s p || not e.wired) None (Some e) (or_left (is_at (Some e) s p) (not e.wired) h)

  stays : (x : Option Entry) → is_at x s p ≡ false → Stays (mapping_of x) (mapping_of (after (vacated s p) x))
  stays None h = inl refl
  stays (Some e) h =
      ⊎_elim
      (λ w. inl (ap mapping_of (cond-false (is_at (Some e) s p || not e.wired) None (Some e) (or_from (is_at (Some e) s p) (not e.wired) h (ap not w)))))
      (λ w. inr (ap mapping_of (cond-true (is_at (Some e) s p || not e.wired) None (Some e) (loose w)), w))
      (cases_Bool e.wired)
    where
      loose : e.wired ≡ false → (is_at (Some e) s p || not e.wired) ≡ true
      loose w = ap (λ t. t || not e.wired) h ∙ ap not w

drop_one : (f : ℕ) (x : Option Entry) → mapping_of (after (dropped f) x) ≡ without f (mapping_of x)
drop_one f None = refl
drop_one f (Some e) =
    ⊎_elim
    (λ h. ap mapping_of (cond-true (eqb e.frame f) None (Some e) h) ∙ sym (cond-true (eqb e.frame f) None (mapping_of (Some e)) h))
    (λ h. ap mapping_of (cond-false (eqb e.frame f) None (Some e) h) ∙ sym (cond-false (eqb e.frame f) None (mapping_of (Some e)) h))
    (cases_Bool (eqb e.frame f))

pub drops : (xs : List (Option Entry)) (sound : Sound xs) (f : ℕ) (marks : List Bool) (ys : List (Option Entry)) → ys ≡ map (after (dropped f)) xs → Dropped (shown xs marks) (shown ys marks) f
drops xs sound f marks ys is =
    subst (λ zs. Dropped (shown xs marks) (shown zs marks) f) (sym is) (record {
      held = λ a b. ap mapping_of (found_after (dropped f) (tame_dropped f) xs a b sound.alone) ∙ drop_one f (found xs a b);
      marks = refl;
    })

-- an entry is put into a slot
module _ (xs : List (Option Entry)) (sound : Sound xs) (at : ℕ) (e : Entry) (room : Room xs at e) where
  abbrev vacant : List (Option Entry)
  vacant = map (after (vacated e.space e.page)) xs

  empty : found vacant e.space e.page ≡ None
  empty =
      found_after (vacated e.space e.page) (tame_vacated e.space e.page) xs e.space e.page sound.alone
      ∙ ⊎_elim
      (λ none. ap (after (vacated e.space e.page)) none)
      (λ h. vacates xs sound e.space e.page (found xs e.space e.page) h)
      (found_at xs e.space e.page)

  pub put_keeps : Sound (set vacant at (Some e))
  put_keeps = put_sound vacant at e (after_sound (vacated e.space e.page) (tame_vacated e.space e.page) xs sound) room.within room.fits empty

  pub put_keeps_placed : Placed xs → place_fits (Some e) ≡ true → Placed (set vacant at (Some e))
  put_keeps_placed placed fits =
      put_placed vacant at e (after_placed (vacated e.space e.page) (tame_vacated e.space e.page) xs placed) (omega (arith, length-map xs (after (vacated e.space e.page)), sound.long, room.within)) fits

  own_place : is_at (Some e) e.space e.page ≡ true
  own_place = and_from (eqb e.space e.space) (eqb e.page e.page) (eq-eqb e.space e.space refl) (eq-eqb e.page e.page refl)

  held_after : (a b : ℕ) → found (set vacant at (Some e)) a b ≡ cond (is_at (Some e) a b) (Some e) (found vacant a b)
  held_after a b =
      found_put vacant at e a b
      (omega (arith, length-map xs (after (vacated e.space e.page)), sound.long, room.within))
      (get_or-map (after (vacated e.space e.page)) xs at None ∙ room.free)
      (λ h. let q = one_place (Some e) a b e.space e.page h own_place in ap (λ z. found vacant z b) q.0 ∙ ap (found vacant e.space) q.1 ∙ empty)

  elsewhere : (a b : ℕ) → Elsewhere e.space e.page a b → mapping_of (found (set vacant at (Some e)) a b) ≡ mapping_of (after (vacated e.space e.page) (found xs a b))
  elsewhere a b other =
      ap mapping_of (held_after a b
      ∙ cond-false (is_at (Some e) a b) (Some e) (found vacant a b) (⊎_elim (λ h. let q = one_place (Some e) a b e.space e.page h own_place in absurd (other q.0 q.1)) (λ h. h) (cases_Bool (is_at (Some e) a b)))
      ∙ found_after (vacated e.space e.page) (tame_vacated e.space e.page) xs a b sound.alone)

  pub puts : (marks : List Bool) (ys : List (Option Entry)) → ys ≡ set vacant at (Some e) → PutForgetting (shown xs marks) (shown ys marks) e.space e.page (mapping_of (Some e)) (shown xs marks).modified
  puts marks ys is =
      subst (λ zs. PutForgetting (shown xs marks) (shown zs marks) e.space e.page (mapping_of (Some e)) (shown xs marks).modified) (sym is) (record {
        here = ap mapping_of (held_after e.space e.page ∙ cond-true (is_at (Some e) e.space e.page) (Some e) (found vacant e.space e.page) own_place);
        others = λ a b other. subst (Stays (mapping_of (found xs a b))) (sym (elsewhere a b other)) (stays xs sound e.space e.page (found xs a b) (far xs sound e.space e.page a b other));
        marked = refl;
      })

  vacated_wired : (x : Option Entry) → is_wired (mapping_of (after (vacated e.space e.page) x)) ≡ false → mapping_of (after (vacated e.space e.page) x) ≡ None
  vacated_wired None h = refl
  vacated_wired (Some d) h =
      ⊎_elim
      (λ q. ap mapping_of (cond-true (is_at (Some d) e.space e.page || not d.wired) None (Some d) q))
      (λ q.
      let kept = cond-false (is_at (Some d) e.space e.page || not d.wired) None (Some d) q in
      let loose = sym (ap (λ y. is_wired (mapping_of y)) kept) ∙ h in
      absurd (both_ways (not d.wired) (or_parts (is_at (Some d) e.space e.page) (not d.wired) q).1 (ap not loose)))
      (cases_Bool (is_at (Some d) e.space e.page || not d.wired))

  pub only_wired : (marks : List Bool) (ys : List (Option Entry)) → ys ≡ set vacant at (Some e) → OnlyWired (shown ys marks) e.space e.page
  only_wired marks ys is = subst (λ zs. OnlyWired (shown zs marks) e.space e.page) (sym is) (λ a b other h. elsewhere a b other ∙ vacated_wired (found xs a b) (sym (ap is_wired (elsewhere a b other)) ∙ h))

-- An enter: the old entry goes, perhaps one is forgotten, the new one is written.
use Rattle.std.proofs.lemmas.Bool.Decides.{nat_tests}
use Rattle.std.proofs.Common.{◌≡◌, ℕ, ◌<◌, Bool, true, false, ◌&&◌, eqb, ◌⊎◌, Some, None, Option, sym, refl, ap, ◌∙◌, subst, inl, inr, ⊎_elim, arith}
use Rattle.std.proofs.lemmas.Bool.{cond-true, ne_eqb, eqb-true, both_ways}
use Rattle.pmap.specs.Meaning.{Mapping, View, Put, PutForgetting, Stays}
use Rattle.pmap.specs.Tally.{tally}
use Rattle.slots.specs.Slots.{Entry}
use Rattle.slots.proofs.Shown.{none_some, emptied_removes, emptied_stays, emptied_marks, filled_puts, enters}
use Rattle.powerpc_words.specs.State.{State, first, wired_at}
use Rattle.powerpc_words.specs.Search.{lookup, unused, victim}
use Rattle.powerpc_words.specs.Changes.{emptied, removed, forgotten, filled, placed, entered}
use Rattle.powerpc_words.specs.Answers.{holds, crowded, wired_beside, is_slot}
use Rattle.powerpc_words.proofs.CallLaws.{removed_none, removed_some, holds_none, holds_some, placed_unused, placed_victim}
use Rattle.powerpc_pmap.specs.View.{view_of}
use Rattle.powerpc_pmap.specs.Kept.{At, Kept}
use Rattle.powerpc_pmap.proofs.Finds.{option_cases, InGroup, in_group_below, lookup_finds, lookup_at, unused_finds, victim_finds}
use Rattle.powerpc_pmap.proofs.Decoded.{slot_at, table, slot_some, at_used, at_space, at_page}
use Rattle.powerpc_pmap.proofs.Showing.{place_fits, shows, single}
use Rattle.powerpc_pmap.proofs.Keeping.{tally_mono, tame_wired}
use Rattle.powerpc_pmap.proofs.Emptying.{cleared_emptied, cleared_forgotten, here, emptied_tame, emptied_keeps, emptied_table}
use Rattle.powerpc_pmap.proofs.Filling.{filled_keeps, filled_table}
use Rattle.powerpc_pmap.proofs.Counting.{victim_exists, few_beside, beside_from}

bool_same : (x y : Bool) → (x ≡ true → y ≡ true) → (y ≡ true → x ≡ true) → x ≡ y
bool_same true y f g = sym (f refl)
bool_same false true f g = g refl
bool_same false false f g = refl

-- the counter
next_same : (st : State) (k : ℕ) → st.next < 8 → (emptied st k).next < 8
unfolding emptied
next_same st k h = h

next_turn : (st : State) (k : ℕ) → (forgotten st k).next < 8
unfolding forgotten
next_turn st k = omega arith

module _ (st : State) (kept : Kept st) (s p : ℕ) (s_fits : s < 4) (p_fits : p < 262144) where
  pub held_none : lookup st.words s p ≡ None → (view_of st).held s p ≡ None
  unfolding view_of
  held_none e = cond-true _ _ _ (place_fits s p s_fits p_fits) ∙ holds_none st s p e

  -- the view holds what the lookup finds
  pub held_holds : (view_of st).held s p ≡ holds st s p
  unfolding view_of
  held_holds = cond-true _ _ _ (place_fits s p s_fits p_fits)

  -- no slot has a place that the view does not hold
  pub held_free : (view_of st).held s p ≡ None → (g : Bool) (j : ℕ) → At st s p g j → ⊥
  held_free e g j at = none_some (sym e ∙ held_holds ∙ holds_some st s p j (lookup_at st s p s_fits p_fits kept g j at))

  -- the slot of the place is the one that goes
  exact : (side : Bool) (k : ℕ) → At st s p side k → (j : ℕ) (e : Entry) → slot_at st j ≡ Some e → eqb j k ≡ (eqb e.space s && eqb e.page p)
  exact side k at j e h = grind (arith, nat_tests, bool_same, slot_some, at_space, at_page, single, at_used)

  -- ---- remove
  pub record Removed (sv : State) : Type 0 where
    pub keeps : Kept sv
    pub puts : Put (view_of st) (view_of sv) s p None
    pub wired : (j : ℕ) → j < 8192 → wired_at sv j ≡ true → wired_beside st (lookup st.words s p) j ≡ true

  removed_at : (k : ℕ) → lookup st.words s p ≡ Some k → Removed (emptied st k)
  removed_at k found =
      let r = lookup_finds st s p s_fits p_fits k found in
      let b = r.1.below in
      let c = cleared_emptied st k in
      let keeps = emptied_keeps st kept k b (emptied st k) c (next_same st k kept.next) in
      record {
        keeps = keeps;
        puts = emptied_removes (table st) (table (emptied st k)) (view_of st) (view_of (emptied st k)) (shows st kept) (shows (emptied st k) keeps) (single st kept)
            (λ j. eqb j k) (emptied_table st kept k b (emptied st k) c) s p (exact r.0 k r.1);
        wired = λ j h t. beside_from st kept s p s_fits p_fits j (tame_wired st (emptied st k) j (emptied_tame st kept k b (emptied st k) c j h) t)
            (other j k found (λ q. both_ways _ (here st kept k b (emptied st k) c).wired (subst (λ x. wired_at (emptied st k) x ≡ true) q t)));
      }
    where
      other : (j k : ℕ) → lookup st.words s p ≡ Some k → (j ≡ k → ⊥) → is_slot (lookup st.words s p) j ≡ false
      other j k e far = ap (λ o. is_slot o j) e ∙ ne_eqb j k far

  removed_no : lookup st.words s p ≡ None → Removed st
  removed_no e = record {
    keeps = kept;
    puts = record { here = held_none e; others = λ a b _. refl; marks = refl };
    wired = λ j h t. beside_from st kept s p s_fits p_fits j t (ap (λ o. is_slot o j) e);
  }

  pub removing : Removed (removed st s p)
  removing = ⊎_elim
      (λ (e : lookup st.words s p ≡ None). subst Removed (sym (removed_none st s p e)) (removed_no e))
      (λ f. subst Removed (sym (removed_some st s p f.0 f.1)) (removed_at f.0 f.1))
      (option_cases (lookup st.words s p))

-- ---- the new entry
module _ (st : State) (kept : Kept st) (s p : ℕ) (s_fits : s < 4) (p_fits : p < 262144) (f q : ℕ) (f_fits : f < 256) (right : (q ≡ 1) ⊎ (q ≡ 3)) (w : Bool)
    (empty : (view_of st).held s p ≡ None) (less : w ≡ true → tally (wired_at st) 8192 < 8) where
  pub record Placed (sv : State) : Type 0 where
    pub keeps : Kept sv
    pub mid : View
    pub stays : (a b : ℕ) → Stays ((view_of st).held a b) (mid.held a b)
    pub marks : mid.modified ≡ (view_of st).modified
    pub puts : Put mid (view_of sv) s p (Some (f, q, w))

  -- into a slot that is unused
  fills : (st' : State) (kept' : Kept st') → (view_of st').held s p ≡ None → (w ≡ true → tally (wired_at st') 8192 < 8) → (k : ℕ) (place : InGroup s p k) → first st' k ≡ 0 →
      Kept (filled st' k s p f q w) × Put (view_of st') (view_of (filled st' k s p f q w)) s p (Some (f, q, w))
  fills st' kept' none less' k place zero =
      let keeps = filled_keeps st' kept' s p s_fits p_fits k place zero f q f_fits w (held_free st' kept' s p s_fits p_fits none) less' in
      let new : Entry = record { space = s; page = p; frame = f; protection = q; wired = w; dirty = false } in (
        keeps,
        filled_puts (table st') (table (filled st' k s p f q w)) (view_of st') (view_of (filled st' k s p f q w)) (shows st' kept') (shows (filled st' k s p f q w) keeps) k new
            (filled_table st' kept' s p s_fits p_fits k place zero f q f_fits w right) none,
      )

  into_unused : (k : ℕ) → unused st.words s p ≡ Some k → Placed (filled st k s p f q w)
  into_unused k e =
      let r = unused_finds st s p s_fits p_fits k e in
      let done = fills st kept empty less k r.0 r.1 in
      record { keeps = done.0; mid = view_of st; stays = λ a b. inl refl; marks = refl; puts = done.1 }

  into_victim : (k : ℕ) → victim st s p ≡ Some k → Placed (filled (forgotten st k) k s p f q w)
  into_victim k e =
      let r = victim_finds st s p s_fits p_fits k e in
      let b = in_group_below s p k r.0 in
      let c = cleared_forgotten st k in
      let keeps = emptied_keeps st kept k b (forgotten st k) c (next_turn st k) in
      let E = emptied_table st kept k b (forgotten st k) c in
      let loose : (j : ℕ) (d : Entry) → slot_at st j ≡ Some d → eqb j k ≡ true → d.wired ≡ false =
      (λ j d h t. sym (ap (λ z. z.wired) (slot_some st j d h).2) ∙ ap (wired_at st) (eqb-true j k t) ∙ r.1) in
      let stays = emptied_stays (table st) (table (forgotten st k)) (view_of st) (view_of (forgotten st k)) (shows st kept) (shows (forgotten st k) keeps) (single st kept) (λ j. eqb j k) E loose in
      let none = still_none ((view_of (forgotten st k)).held s p) (stays s p) in
      let less' : w ≡ true → tally (wired_at (forgotten st k)) 8192 < 8 = (λ t. let m = tally_mono (wired_at (forgotten st k)) (wired_at st) 8192 (λ j h. tame_wired st (forgotten st k) j (emptied_tame st kept k b (forgotten st k) c j h)) in omega (arith, m, less t)) in
      let done = fills (forgotten st k) keeps none less' k r.0 (here st kept k b (forgotten st k) c).first in
      record {
        keeps = done.0;
        mid = view_of (forgotten st k);
        stays = stays;
        marks = emptied_marks (table st) (table (forgotten st k)) (view_of st) (view_of (forgotten st k)) (shows st kept) (shows (forgotten st k) keeps) (single st kept) (λ j. eqb j k) E;
        puts = done.1;
      }
    where
      still_none : (o : Option Mapping) → Stays ((view_of st).held s p) o → o ≡ None
      still_none o (inl x) = x ∙ empty
      still_none o (inr x) = x.0

  pub placing : Placed (placed st s p f q w)
  placing = ⊎_elim
      (λ (n : unused st.words s p ≡ None). ⊎_elim
      (λ (m : victim st s p ≡ None). absurd (victim_exists st kept s p m))
      (λ v. subst Placed (sym (placed_victim st s p f q w v.0 n v.1)) (into_victim v.0 v.1))
      (option_cases (victim st s p)))
      (λ u. subst Placed (sym (placed_unused st s p f q w u.0 u.1)) (into_unused u.0 u.1))
      (option_cases (unused st.words s p))

-- ---- enter
module _ (st : State) (kept : Kept st) (s p : ℕ) (s_fits : s < 4) (p_fits : p < 262144) (f q : ℕ) (f_fits : f < 256) (right : (q ≡ 1) ⊎ (q ≡ 3)) (w : Bool)
    (room : w ≡ true → crowded st s p ≡ false) where
  pub entering : Kept (entered st s p f q w) × PutForgetting (view_of st) (view_of (entered st s p f q w)) s p (Some (f, q, w)) (view_of st).modified
  unfolding entered
  entering =
      let r = removing st kept s p s_fits p_fits in
      let less : w ≡ true → tally (wired_at (removed st s p)) 8192 < 8 = (λ t.
      let m = tally_mono (wired_at (removed st s p)) (wired_beside st (lookup st.words s p)) 8192 r.wired in
      omega (arith, m, few_beside st kept s p s_fits p_fits (room t))) in
      let d = placing (removed st s p) r.keeps s p s_fits p_fits f q f_fits right w r.puts.here less in (
        d.keeps,
        enters (view_of st) (view_of (removed st s p)) d.mid (view_of (placed (removed st s p) s p f q w)) s p (f, q, w) r.puts d.stays d.marks d.puts,
      )

-- The view of a board shows the slots that its words spell.
use Rattle.std.proofs.lemmas.Bool.Decides.{nat_tests}
use Rattle.std.proofs.Common.{arith, ◌≡◌, ℕ, ◌<◌, Bool, true, false, get_or, Some, None, sym, ap, ◌∙◌, subst, inl, inr, ⊎_elim}
use Rattle.std.proofs.lemmas.Bool.{cases_Bool, cond-true, cond-false, and_from, lt-ltb, eq-eqb, or_cases, or_left, or_right}
use Rattle.pmap.specs.Meaning.{Mapping}
use Rattle.pmap.specs.Ranges.{fits_place}
use Rattle.slots.specs.Slots.{Single, Held, Shows, mapping_of}
use Rattle.slots.proofs.Shown.{none_some}
use Rattle.powerpc_words.specs.Fields.{frame_of, changed}
use Rattle.powerpc_words.specs.State.{State, first, second}
use Rattle.powerpc_words.specs.Search.{lookup}
use Rattle.powerpc_words.specs.Changes.{maps, dirty_at, any_dirty, modified_in}
use Rattle.powerpc_words.proofs.CallLaws.{holds_none, holds_some}
use Rattle.powerpc_words.proofs.SweepLaws.{any_dirty_decides}
use Rattle.powerpc_pmap.specs.View.{view_of, held_at}
use Rattle.powerpc_pmap.specs.Kept.{At, Kept}
use Rattle.powerpc_pmap.proofs.Finds.{option_cases, lookup_finds, lookup_at}
use Rattle.powerpc_pmap.proofs.Decoded.{entry_at, table, slot_used, slot_some, at_used, at_space, at_page, some_used}

pub place_fits : (s p : ℕ) → s < 4 → p < 262144 → fits_place s p ≡ true
place_fits s p a b = and_from _ _ (lt-ltb s 4 a) (lt-ltb p 262144 b)

pub fits_place_is : (s p : ℕ) → fits_place s p ≡ true → (s < 4) × (p < 262144)
fits_place_is s p e = grind (arith, nat_tests)

-- a slot that maps a frame with C on, by the slot's entry
pub dirty_slot : (st : State) (k f : ℕ) → 0 < first st k → frame_of (second st k) ≡ f → changed (second st k) ≡ true → dirty_at st.words f k ≡ true
unfolding dirty_at maps
dirty_slot st k f h e c = and_from _ _ (and_from _ _ (lt-ltb _ _ h) (eq-eqb _ _ e)) c

pub slot_dirty : (st : State) (k f : ℕ) → dirty_at st.words f k ≡ true → (0 < first st k) × (frame_of (second st k) ≡ f) × (changed (second st k) ≡ true)
unfolding dirty_at maps
slot_dirty st k f e = grind (arith, nat_tests)

module _ (st : State) (kept : Kept st) where
  -- the hardware's lookup finds just what the slots hold
  at_held : (s p : ℕ) (side : Bool) (k : ℕ) → At st s p side k → held_at st s p ≡ Some (mapping_of (entry_at st k))
  at_held s p side k at = grind (arith, nat_tests, place_fits, holds_some, lookup_at)

  pub shows : Shows (table st) (view_of st)
  unfolding view_of modified_in
  shows = record {
    holds = λ k e h.
        let u = some_used st k kept e h in
        let same = (slot_some st k e h).2 in
        let held = at_held u.space u.page u.side k u.at in
        subst (λ x. held_at st x.space x.page ≡ Some (mapping_of x)) same
        (subst (λ a. held_at st a (entry_at st k).page ≡ Some (mapping_of (entry_at st k))) (sym (at_space st k u.space u.page u.side u.at))
        (subst (λ b. held_at st u.space b ≡ Some (mapping_of (entry_at st k))) (sym (at_page st k u.space u.page u.side u.at)) held));
    only = λ a b m h. only a b m h;
    marks = λ f e. or_left _ _ e;
    bits = λ f x.
        let r = slot_some st x.at x.entry x.found in
        or_right (get_or st.marks f false) _ ((any_dirty_decides st.words f 8192).1
        (x.at, r.0, dirty_slot st x.at f r.1 (ap (λ z. z.frame) r.2 ∙ x.frame) (ap (λ z. z.dirty) r.2 ∙ x.on)));
    told = λ f e. ⊎_elim
        (λ m. inl m)
        (λ d. let r = (any_dirty_decides st.words f 8192).0 d in
        let s = slot_dirty st r.0 f r.2 in
        inr (record { at = r.0; entry = entry_at st r.0; found = slot_used st r.0 r.1 s.0; frame = s.1; on = s.2 }))
        (or_cases (get_or st.marks f false) (any_dirty st.words f 8192) e);
  }
    where
      only : (a b : ℕ) (m : Mapping) → held_at st a b ≡ Some m → Held (table st) a b
      only a b m h = ⊎_elim
          (λ (t : fits_place a b ≡ true).
          let fits = fits_place_is a b t in
          ⊎_elim
          (λ (n : lookup st.words a b ≡ None). absurd (none_some (sym (cond-true _ _ _ t ∙ holds_none st a b n) ∙ h)))
          (λ f. let r = lookup_finds st a b fits.0 fits.1 f.0 f.1 in
          record { at = f.0; entry = entry_at st f.0; found = at_used st f.0 a b r.0 r.1; space = at_space st f.0 a b r.0 r.1; page = at_page st f.0 a b r.0 r.1 })
          (option_cases (lookup st.words a b)))
          (λ (t : fits_place a b ≡ false). absurd (none_some (sym (cond-false _ _ _ t) ∙ h)))
          (cases_Bool (fits_place a b))

  pub single : Single (table st)
  single j k d e p q x y = grind (arith, nat_tests, some_used, slot_some, at_space, at_page)

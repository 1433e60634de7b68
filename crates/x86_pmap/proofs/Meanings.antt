-- From the exact answer and state of each call to its meaning.
use Rattle.std.proofs.Common.{◌≡◌, ℕ, ◌<◌, Bool, true, false, ◌&&◌, eqb, ◌⊎◌, Some, None, Ok, Err, Result, sym, refl, ap, ◌∙◌, subst, inl, inr, ⊎_elim}
use Rattle.std.proofs.lemmas.Bool.{cases_Bool, cond-true, cond-false, and_parts, ltb-true, eqb-true, or_cases}
use Rattle.refusal.specs.declared.pmap.PmapRefusal.{PmapRefusal}
use Rattle.refusal.specs.declared.pmap.PmapRefusal.TheVariants.{Range, WiredFull}
use Rattle.pmap.specs.Meaning.{View, Same, AtPlace, AtFrame, Cleared, Enters, Removes, Lowers, Drops, Unwires, Accesses, Unmarks, Put, Dropped, Unmarked, Unwired, Accessed, answered, lowered, PutForgetting}
use Rattle.pmap.specs.Ranges.{fits_place, fits_frame, fits_entry}
use Rattle.pmap.specs.declared.access.Access.{Access}
use Rattle.x86_words.specs.Words.{read_only, unwired, leaf_word}
use Rattle.x86_words.specs.State.{State, removed, rewritten_at, accessed, access_answer, dropped, unmarked, crowded, installed, started}
use Rattle.x86_words.specs.Answers.{at_place, placed, at_frame, framed, enter_answer, entered}
use Rattle.x86_pmap.specs.Kept.{Kept}
use Rattle.x86_pmap.specs.Views.{view_of}
use Rattle.x86_pmap.proofs.Tables.{fits_both}
use Rattle.x86_pmap.proofs.Places.{remove_means}
use Rattle.x86_pmap.proofs.Rewrites.{lower_means, unwire_means, access_means}
use Rattle.x86_pmap.proofs.Frames.{drop_means, unmark_means}
use Rattle.x86_pmap.proofs.Wirings.{crowded_means, crowded_not}
use Rattle.x86_pmap.proofs.Enters.{enter_means}
use Rattle.x86_pmap.proofs.Starts.{start_kept, start_cleared}

-- a state that does not change
same_view : (v : View) → Same v v
same_view v = record { held = λ a b. refl; marks = refl }

unchanged : (st u : State) → u ≡ st → Kept st → Same (view_of st) (view_of u) × Kept u
unchanged st u e K = (subst (λ i. Same (view_of st) (view_of i)) (sym e) (same_view (view_of st)), subst Kept (sym e) K)

-- a call that names a place does what it does, or is refused
module _ {U : Type 0} (st after u : State) (s p : ℕ) (a : U) (r : Result U PmapRefusal) (Done : View → U → Type 0) (K : Kept st)
    (done : s < 4 → p < 262144 → Kept after × Done (view_of after) a) (answer : r ≡ at_place s p a) (then : u ≡ placed s p after st) where
  pub place_means : AtPlace (view_of st) (view_of u) s p r (Done (view_of u)) × Kept u
  place_means = ⊎_elim
      (λ (f : fits_place s p ≡ true).
      let b = fits_both s p f in
      let d = done b.0 b.1 in
      let q : u ≡ after = then ∙ cond-true (fits_place s p) after st f in
      (subst (λ x. AtPlace (view_of st) (view_of u) s p x (Done (view_of u))) (sym (answer ∙ cond-true (fits_place s p) (Ok a) (Err Range) f)) (f, subst (λ i. Done (view_of i) a) (sym q) d.1), subst Kept (sym q) d.0))
      (λ (f : fits_place s p ≡ false).
      let n = unchanged st u (then ∙ cond-false (fits_place s p) after st f) K in
      (subst (λ x. AtPlace (view_of st) (view_of u) s p x (Done (view_of u))) (sym (answer ∙ cond-false (fits_place s p) (Ok a) (Err Range) f)) (refl, f, n.0), n.1))
      (cases_Bool (fits_place s p))

-- a call that names a frame, likewise
module _ {U : Type 0} (st after u : State) (f : ℕ) (a : U) (r : Result U PmapRefusal) (Done : View → U → Type 0) (K : Kept st)
    (done : f < 256 → Kept after × Done (view_of after) a) (answer : r ≡ at_frame f a) (then : u ≡ framed f after st) where
  pub frame_means : AtFrame (view_of st) (view_of u) f r (Done (view_of u)) × Kept u
  frame_means = ⊎_elim
      (λ (h : fits_frame f ≡ true).
      let d = done (ltb-true f 256 h) in
      let q : u ≡ after = then ∙ cond-true (fits_frame f) after st h in
      (subst (λ x. AtFrame (view_of st) (view_of u) f x (Done (view_of u))) (sym (answer ∙ cond-true (fits_frame f) (Ok a) (Err Range) h)) (h, subst (λ i. Done (view_of i) a) (sym q) d.1), subst Kept (sym q) d.0))
      (λ (h : fits_frame f ≡ false).
      let n = unchanged st u (then ∙ cond-false (fits_frame f) after st h) K in
      (subst (λ x. AtFrame (view_of st) (view_of u) f x (Done (view_of u))) (sym (answer ∙ cond-false (fits_frame f) (Ok a) (Err Range) h)) (refl, h, n.0), n.1))
      (cases_Bool (fits_frame f))

module _ {U : Type 0} (st u : State) (K : Kept st) (s p : ℕ) (done : U) (r : Result U PmapRefusal) where
  pub removes : r ≡ at_place s p done → u ≡ placed s p (removed st s p) st → Removes (view_of st) (view_of u) s p r × Kept u
  removes = place_means st (removed st s p) u s p done r (λ w _. Put (view_of st) w s p None) K (λ x y. remove_means s p x y st K)

  pub lowers : r ≡ at_place s p done → u ≡ placed s p (rewritten_at read_only st s p) st → Lowers (view_of st) (view_of u) s p r × Kept u
  lowers = place_means st (rewritten_at read_only st s p) u s p done r (λ w _. Put (view_of st) w s p (lowered ((view_of st).held s p))) K (λ x y. lower_means s p x y st K)

  pub unwires : r ≡ at_place s p done → u ≡ placed s p (rewritten_at unwired st s p) st → Unwires (view_of st) (view_of u) s p r × Kept u
  unwires = place_means st (rewritten_at unwired st s p) u s p done r (λ w _. Unwired (view_of st) w s p ((view_of st).held s p)) K (λ x y. unwire_means s p x y st K)

module _ {U : Type 0} (st u : State) (K : Kept st) (f : ℕ) (done : U) (r : Result U PmapRefusal) where
  pub drops : r ≡ at_frame f done → u ≡ framed f (dropped st f) st → Drops (view_of st) (view_of u) f r × Kept u
  drops = frame_means st (dropped st f) u f done r (λ w _. Dropped (view_of st) w f) K (λ h. drop_means st K f)

  pub unmarks : r ≡ at_frame f done → u ≡ framed f (unmarked st f) st → Unmarks (view_of st) (view_of u) f r × Kept u
  unmarks = frame_means st (unmarked st f) u f done r (λ w _. Unmarked (view_of st) w f) K (λ h. unmark_means st K f h)

pub accesses : (st u : State) → Kept st → (s p : ℕ) (write : Bool) (r : Result Access PmapRefusal)
    → r ≡ at_place s p (access_answer st s p write) → u ≡ placed s p (accessed st s p write) st → Accesses (view_of st) (view_of u) s p write r × Kept u
accesses st u K s p write r =
    place_means st (accessed st s p write) u s p (access_answer st s p write) r
    (λ w a. (a ≡ answered ((view_of st).held s p) write) × Accessed (view_of st) w s p write a) K
    (λ x y. let m = access_means s p x y st K write in (m.0, (m.1, m.2)))

pub clears : (u : State) → u ≡ started → Cleared (view_of u) × Kept u
clears u e = (subst (λ i. Cleared (view_of i)) (sym e) start_cleared, subst Kept (sym e) start_kept)

module _ {U : Type 0} (st u : State) (K : Kept st) (s p f q : ℕ) (on : Bool) (done : U) (r : Result U PmapRefusal)
    (answer : r ≡ enter_answer st s p f q on done) (then : u ≡ entered st s p f q on) where
  -- a number out of range
  out_of_range : fits_entry s p f q ≡ false → Enters (view_of st) (view_of u) s p f q on r × Kept u
  out_of_range h =
      let n = unchanged st u (then ∙ cond-false (fits_entry s p f q) _ st h) K in
      (subst (λ x. Enters (view_of st) (view_of u) s p f q on x) (sym (answer ∙ cond-false (fits_entry s p f q) _ (Err Range) h)) (h, n.0), n.1)

  module _ (h : fits_entry s p f q ≡ true) where
    fits_place_is : fits_place s p ≡ true
    fits_place_is = (and_parts (fits_place s p) _ h).0

    frame_low_is : f < 256
    frame_low_is = ltb-true f 256 (and_parts (fits_frame f) _ (and_parts (fits_place s p) _ h).1).0

    right : (q ≡ 1) ⊎ (q ≡ 3)
    right = ⊎_elim (λ e. inl (eqb-true q 1 e)) (λ e. inr (eqb-true q 3 e)) (or_cases (eqb q 1) (eqb q 3) (and_parts (fits_frame f) _ (and_parts (fits_place s p) _ h).1).1)

    -- eight other places are wired
    full : (on && crowded st s p) ≡ true → Enters (view_of st) (view_of u) s p f q on r × Kept u
    full g =
        let parts = and_parts on (crowded st s p) g in
        let b = fits_both s p fits_place_is in
        let n = unchanged st u (then ∙ cond-true (fits_entry s p f q) _ st h ∙ cond-true (on && crowded st s p) st _ g) K in (
          subst (λ x. Enters (view_of st) (view_of u) s p f q on x) (sym (answer ∙ cond-true (fits_entry s p f q) _ (Err Range) h ∙ cond-true (on && crowded st s p) (Err WiredFull) (Ok done) g))
              ((h, parts.0, crowded_means s p b.0 b.1 st K parts.1), n.0),
          n.1,
        )

    -- there is room
    passes : (on && crowded st s p) ≡ false → Enters (view_of st) (view_of u) s p f q on r × Kept u
    passes g =
        let m = enter_means s p b.0 b.1 st K f q on frame_low_is right free in
        let e : u ≡ installed st s p (leaf_word f q on) = then ∙ cond-true (fits_entry s p f q) _ st h ∙ cond-false (on && crowded st s p) st _ g in (
          subst (λ x. Enters (view_of st) (view_of u) s p f q on x) (sym (answer ∙ cond-true (fits_entry s p f q) _ (Err Range) h ∙ cond-false (on && crowded st s p) (Err WiredFull) (Ok done) g))
              (record { fits = h; room = λ w. crowded_not s p b.0 b.1 st K (free w) }, subst (λ i. PutForgetting (view_of st) (view_of i) s p (Some (f, q, on)) (view_of st).modified) (sym e) m.1),
          subst Kept (sym e) m.0,
        )
      where
        b : (s < 4) × (p < 262144)
        b = fits_both s p fits_place_is

        free : on ≡ true → crowded st s p ≡ false
        free w = sym (ap (λ x. x && crowded st s p) w) ∙ g

  pub enters : Enters (view_of st) (view_of u) s p f q on r × Kept u
  enters = ⊎_elim
      (λ (h : fits_entry s p f q ≡ true). ⊎_elim (λ g. full h g) (λ g. passes h g) (cases_Bool (on && crowded st s p)))
      (λ (h : fits_entry s p f q ≡ false). out_of_range h)
      (cases_Bool (fits_entry s p f q))

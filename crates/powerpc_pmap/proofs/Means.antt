-- Each call of the board has its meaning as a pmap call, and keeps what the board keeps.
use Rattle.std.proofs.lemmas.Bool.Decides.{nat_tests}
use Rattle.std.proofs.Common.{◌≡◌, ℕ, ◌+◌, ◌*◌, ◌<◌, Bool, true, false, cond, ◌&&◌, ◌||◌, eqb, ◌⊎◌, length, get_or, Some, None, Ok, Err, Option, Result, sym, refl, ap, ◌∙◌, subst, inl, ⊎_elim, arith, lit<, MatchResult}
use mathlib.Core.Path.{fun_ext}
use Rattle.std.proofs.lemmas.Bool.{cases_Bool, cond-true, cond-false, and_parts, and_cases, ltb-true, both_ways}
use Rattle.std.proofs.lemmas.List.{length-replicate, get_or-set_same}
use Rattle.refusal.specs.declared.pmap.PmapRefusal.{PmapRefusal}
use Rattle.refusal.specs.declared.pmap.PmapRefusal.TheVariants.{Range, WiredFull}
use Rattle.pmap.specs.Meaning.{Mapping, View, Elsewhere, Same, Put, Dropped, Unmarked, Cleared, Enters, Removes, Lowers, Drops, Unwires, Unwired, Accesses, Accessed, Finds, Tells, Unmarks, allows, answered, marked, lowered as lowered_mapping}
use Rattle.pmap.specs.Ranges.{fits_place, fits_frame, fits_entry, fits_protection}
use Rattle.pmap.specs.declared.access.Access.{Access}
use Rattle.pmap.specs.declared.access.Access.TheVariants.{Hit, Miss}
use Rattle.slots.specs.Slots.{Entry, mapping_of}
use Rattle.slots.specs.Changes.{Rewritten}
use Rattle.slots.proofs.Shown.{none_some, shown_none, emptied_drops, cleaned_unmarks, rewritten_here, rewritten_others, rewritten_marks, rewritten_same_marks, added}
use Rattle.powerpc_words.specs.Fields.{frame_of, protection_of, changed, touched, lowered}
use Rattle.powerpc_words.specs.State.{State, second, wired_at, start}
use Rattle.powerpc_words.specs.Search.{lookup}
use Rattle.powerpc_words.specs.Changes.{maps, reworded, removed, entered, restricted, unwired, unwired_at, accessed, dropped, unmarked}
use Rattle.powerpc_words.specs.Answers.{holds, crowded, or_range, enter_answer, enter_leaves, remove_leaves, lower_leaves, unwire_leaves, drop_leaves, access_answer, access_leaves, find_answer, modified_answer, unmark_leaves}
use Rattle.powerpc_words.proofs.HashLaws.{entry_above}
use Rattle.powerpc_words.proofs.CallLaws.{restricted_none, restricted_some, unwired_none, unwired_some, accessed_none, accessed_denied, accessed_hit, answered_none, answered_denied, answered_hit, holds_some}
use Rattle.powerpc_words.proofs.MakingLaws.{get_d_same}
use Rattle.powerpc_pmap.specs.View.{view_of}
use Rattle.powerpc_pmap.specs.Kept.{At, Kept}
use Rattle.powerpc_pmap.proofs.Finds.{option_cases, lookup_finds}
use Rattle.powerpc_pmap.proofs.Decoded.{entry_at, slot_at, table, slot_some, slot_unused, at_space, at_page}
use Rattle.powerpc_pmap.proofs.Showing.{fits_place_is, shows, single}
use Rattle.slots.proofs.Tally.{tally_zero}
use Rattle.powerpc_pmap.proofs.Colors.{touched_shaped, lowered_shaped, touched_frame, touched_protection, touched_write_changed, touched_read_changed, lowered_frame, lowered_protection, lowered_changed}
use Rattle.powerpc_pmap.proofs.Dropping.{used_maps, dropped_keeps, dropped_table}
use Rattle.powerpc_pmap.proofs.Rewriting.{reworded_keeps, reworded_table, unwired_keeps, unwired_table}
use Rattle.powerpc_pmap.proofs.Unmarking.{unmarked_keeps, unmarked_table}
use Rattle.powerpc_pmap.proofs.Counting.{crowded_means, room_means}
use Rattle.powerpc_pmap.proofs.Entering.{held_none, held_holds, removing, entering}

pub same_refl : (v : View) → Same v v
same_refl v = record { held = λ a b. refl; marks = refl }

same_cond : {A : Type 0} (b : Bool) (x : A) → cond b x x ≡ x
same_cond true x = refl
same_cond false x = refl

-- a call that is refused exactly if its numbers are out of range
pub ranged : {U : Type 0} (st sv : State) (r : Result U PmapRefusal) (fits : Bool) (u : U) (sv₀ : State) (done : State → U → Type 0) → r ≡ or_range fits u → sv ≡ cond fits sv₀ st → Kept st → (fits ≡ true → done sv₀ u × Kept sv₀) →
    MatchResult r (λ x. (fits ≡ true) × done sv x) (λ e. (e ≡ Range) × (fits ≡ false) × Same (view_of st) (view_of sv)) × Kept sv
ranged {U} st sv r fits u sv₀ done answer leaves kept works = ⊎_elim
    (λ (t : fits ≡ true). let w = works t in settle (Ok u) sv₀ (answer ∙ cond-true _ _ _ t) (leaves ∙ cond-true _ _ _ t) ((t, w.0), w.1))
    (λ (t : fits ≡ false). settle (Err Range) st (answer ∙ cond-false _ _ _ t) (leaves ∙ cond-false _ _ _ t) ((refl, t, same_refl (view_of st)), kept))
    (cases_Bool fits)
  where
    Goal : Result U PmapRefusal → State → Type 0
    Goal a b = MatchResult a (λ x. (fits ≡ true) × done b x) (λ e. (e ≡ Range) × (fits ≡ false) × Same (view_of st) (view_of b)) × Kept b

    settle : (a : Result U PmapRefusal) (b : State) → r ≡ a → sv ≡ b → Goal a b → Goal r sv
    settle a b p q x = subst (λ y. Goal y sv) (sym p) (subst (λ y. Goal a y) (sym q) x)

-- ---- remove
pub remove_means : (st sv : State) (r : Result (Unit {0}) PmapRefusal) (s p : ℕ) → Kept st → r ≡ or_range (fits_place s p) tt → sv ≡ remove_leaves st s p → Removes (view_of st) (view_of sv) s p r × Kept sv
remove_means st sv r s p kept answer leaves =
    ranged st sv r (fits_place s p) tt (removed st s p) (λ b _. Put (view_of st) (view_of b) s p None) answer leaves kept
    (λ t. let fits = fits_place_is s p t in let x = removing st kept s p fits.0 fits.1 in (x.puts, x.keeps))

-- ---- drop
pub drop_means : (st sv : State) (r : Result (Unit {0}) PmapRefusal) (f : ℕ) → Kept st → r ≡ or_range (fits_frame f) tt → sv ≡ drop_leaves st f → Drops (view_of st) (view_of sv) f r × Kept sv
drop_means st sv r f kept answer leaves =
    ranged st sv r (fits_frame f) tt (dropped st f) (λ b _. Dropped (view_of st) (view_of b) f) answer leaves kept
    (λ t. let keeps = dropped_keeps st kept f in (
      emptied_drops (table st) (table (dropped st f)) (view_of st) (view_of (dropped st f)) (shows st kept) (shows (dropped st f) keeps) (single st kept)
          (maps st.words f) (dropped_table st kept f (ltb-true f 256 t)) f
          (λ k e h. let q = slot_some st k e h in used_maps st k f q.1 ∙ ap (λ z. eqb z.frame f) q.2),
      keeps,
    ))

-- ---- clear-modified
pub unmark_means : (st sv : State) (r : Result (Unit {0}) PmapRefusal) (f : ℕ) → Kept st → r ≡ or_range (fits_frame f) tt → sv ≡ unmark_leaves st f → Unmarks (view_of st) (view_of sv) f r × Kept sv
unmark_means st sv r f kept answer leaves =
    ranged st sv r (fits_frame f) tt (unmarked st f) (λ b _. Unmarked (view_of st) (view_of b) f) answer leaves kept
    (λ t. let keeps = unmarked_keeps st kept f in (
      cleaned_unmarks (table st) (table (unmarked st f)) (view_of st) (view_of (unmarked st f)) (shows st kept) (shows (unmarked st f) keeps) f (unmarked_table st kept f (ltb-true f 256 t)),
      keeps,
    ))

-- ---- modified
pub modified_means : (st : State) (r : Result Bool PmapRefusal) (f : ℕ) → Kept st → r ≡ modified_answer st f → Tells (view_of st) f r
unfolding view_of
modified_means st r f kept answer = grind (arith, nat_tests, ranged, same_cond)

-- ---- find
pub find_means : (st : State) (r : Result (Option Mapping) PmapRefusal) (s p : ℕ) → Kept st → r ≡ find_answer st s p → Finds (view_of st) s p r
find_means st r s p kept answer = grind (arith, nat_tests, ranged, same_cond, fits_place_is, held_holds)

-- ---- lower, unwire and access: the slot of the place is rewritten
module _ (st : State) (kept : Kept st) (s p : ℕ) (s_fits : s < 4) (p_fits : p < 262144) (k : ℕ) (found : lookup st.words s p ≡ Some k) where
  side : Bool
  side = (lookup_finds st s p s_fits p_fits k found).0

  at : At st s p side k
  unfolding side
  at = (lookup_finds st s p s_fits p_fits k found).1

  -- what the place holds
  held_here : (view_of st).held s p ≡ Some (mapping_of (entry_at st k))
  held_here = held_holds st kept s p s_fits p_fits ∙ holds_some st s p k found

  -- a rewritten slot, told of its place
  module _ (sv : State) (keeps : Kept sv) (R : Rewritten (table st) (table sv) k (entry_at st k) (entry_at sv k)) where
    after_here : (view_of sv).held s p ≡ Some (mapping_of (entry_at sv k))
    after_here =
        ap (λ a. (view_of sv).held a p) (sym (at_space st k s p side at)) ∙ ap (λ b. (view_of sv).held (entry_at st k).space b) (sym (at_page st k s p side at))
        ∙ rewritten_here (table st) (table sv) (view_of st) (view_of sv) (shows st kept) (shows sv keeps) (single st kept) k (entry_at st k) (entry_at sv k) R

    after_others : (a b : ℕ) → Elsewhere s p a b → (view_of sv).held a b ≡ (view_of st).held a b
    after_others a b far =
        rewritten_others (table st) (table sv) (view_of st) (view_of sv) (shows st kept) (shows sv keeps) (single st kept) k (entry_at st k) (entry_at sv k) R a b
        (λ x y. far (x ∙ at_space st k s p side at) (y ∙ at_page st k s p side at))

    after_same_marks : (entry_at sv k).dirty ≡ (entry_at st k).dirty → (view_of sv).modified ≡ (view_of st).modified
    after_same_marks = rewritten_same_marks (table st) (table sv) (view_of st) (view_of sv) (shows st kept) (shows sv keeps) (single st kept) k (entry_at st k) (entry_at sv k) R

    after_marks : (view_of sv).modified ≡ added (view_of st).modified (entry_at sv k).dirty (entry_at sv k).frame
    after_marks = rewritten_marks (table st) (table sv) (view_of st) (view_of sv) (shows st kept) (shows sv keeps) (single st kept) k (entry_at st k) (entry_at sv k) R

  -- the second word after a change
  second_is : (b : ℕ) → second (reworded st k b) k ≡ b
  second_is b = grind (arith, nat_tests, get_or-set_same, at)

  lower_at : Put (view_of st) (view_of (reworded st k (lowered (second st k)))) s p (lowered_mapping ((view_of st).held s p)) × Kept (reworded st k (lowered (second st k)))
  lower_at =
      let b = lowered (second st k) in
      let sv = reworded st k b in
      let keeps = reworded_keeps st kept s p side k at b (lowered_frame (second st k)) (lowered_shaped (second st k)) in
      let R = reworded_table st kept s p side k at b (lowered_frame (second st k)) (λ t. lowered_changed (second st k) ∙ t) in (
        record {
          here = after_here sv keeps R
              ∙ ap (λ x. Some (frame_of x, protection_of x, wired_at st k)) (second_is b)
              ∙ ap (λ x. Some (x, protection_of b, wired_at st k)) (lowered_frame (second st k))
              ∙ ap (λ x. Some (frame_of (second st k), x, wired_at st k)) (lowered_protection (second st k))
              ∙ sym (ap lowered_mapping held_here);
          others = after_others sv keeps R;
          marks = after_same_marks sv keeps R (ap changed (second_is b) ∙ lowered_changed (second st k));
        },
        keeps,
      )

  unwire_at : Unwired (view_of st) (view_of (unwired_at st (Some k))) s p ((view_of st).held s p) × Kept (unwired_at st (Some k))
  unwire_at =
      let sv = unwired_at st (Some k) in
      let keeps = unwired_keeps st kept s p side k at in
      let R = unwired_table st kept s p side k at in
      let off : wired_at sv k ≡ false = get_or-set_same st.wired k false false (omega (arith, at.below, kept.wired)) in (
        subst (Unwired (view_of st) (view_of sv) s p) (sym held_here)
            (record {
              here = after_here sv keeps R ∙ ap (λ x. Some (frame_of (second st k), protection_of (second st k), x)) off;
              others = λ a b far. inl (after_others sv keeps R a b far);
              marked = after_same_marks sv keeps R refl;
            }),
        keeps,
      )

  access_at : (write : Bool) → Accessed (view_of st) (view_of (reworded st k (touched write (second st k)))) s p write (Hit (frame_of (second st k))) × Kept (reworded st k (touched write (second st k)))
  access_at write =
      let b = touched write (second st k) in
      let sv = reworded st k b in
      let keeps = reworded_keeps st kept s p side k at b (touched_frame write (second st k)) (touched_shaped write (second st k)) in
      let R = reworded_table st kept s p side k at b (touched_frame write (second st k)) (stays write) in (
        record {
          here = after_here sv keeps R
              ∙ ap (λ x. Some (frame_of x, protection_of x, wired_at st k)) (second_is b)
              ∙ ap (λ x. Some (x, protection_of b, wired_at st k)) (touched_frame write (second st k))
              ∙ ap (λ x. Some (frame_of (second st k), x, wired_at st k)) (touched_protection write (second st k))
              ∙ sym held_here;
          others = λ a c far. inl (after_others sv keeps R a c far);
          marked = marks write keeps R;
        },
        keeps,
      )
    where
      stays : (write : Bool) → changed (second st k) ≡ true → changed (touched write (second st k)) ≡ true
      stays true t = touched_write_changed (second st k)
      stays false t = touched_read_changed (second st k) ∙ t

      or_off : (x : Bool) → (x || false) ≡ x
      or_off true = refl
      or_off false = refl

      marks : (write : Bool) (keeps : Kept (reworded st k (touched write (second st k)))) → Rewritten (table st) (table (reworded st k (touched write (second st k)))) k (entry_at st k) (entry_at (reworded st k (touched write (second st k))) k) →
          (view_of (reworded st k (touched write (second st k)))).modified ≡ marked (view_of st).modified write (frame_of (second st k))
      marks true keeps R =
          after_marks (reworded st k (touched true (second st k))) keeps R
          ∙ ap (λ x. added (view_of st).modified (changed x) (frame_of x)) (second_is (touched true (second st k)))
          ∙ ap (λ x. added (view_of st).modified x (frame_of (touched true (second st k)))) (touched_write_changed (second st k))
          ∙ ap (λ x. added (view_of st).modified true x) (touched_frame true (second st k))
      marks false keeps R =
          after_same_marks (reworded st k (touched false (second st k))) keeps R (ap changed (second_is (touched false (second st k))) ∙ touched_read_changed (second st k))
          ∙ fun_ext λ g. sym (or_off ((view_of st).modified g))

pub lower_means : (st sv : State) (r : Result (Unit {0}) PmapRefusal) (s p : ℕ) → Kept st → r ≡ or_range (fits_place s p) tt → sv ≡ lower_leaves st s p → Lowers (view_of st) (view_of sv) s p r × Kept sv
lower_means st sv r s p kept answer leaves =
    ranged st sv r (fits_place s p) tt (restricted st s p) (λ b _. Put (view_of st) (view_of b) s p (lowered_mapping ((view_of st).held s p))) answer leaves kept
    (λ t. let fits = fits_place_is s p t in ⊎_elim
    (λ (n : lookup st.words s p ≡ None).
    let none = held_none st kept s p fits.0 fits.1 n in
    subst (λ b. Put (view_of st) (view_of b) s p (lowered_mapping ((view_of st).held s p)) × Kept b) (sym (restricted_none st s p n))
    (record { here = none ∙ sym (ap lowered_mapping none); others = λ a b _. refl; marks = refl }, kept))
    (λ f. subst (λ b. Put (view_of st) (view_of b) s p (lowered_mapping ((view_of st).held s p)) × Kept b) (sym (restricted_some st s p f.0 f.1))
    (lower_at st kept s p fits.0 fits.1 f.0 f.1))
    (option_cases (lookup st.words s p)))

pub unwire_means : (st sv : State) (r : Result (Unit {0}) PmapRefusal) (s p : ℕ) → Kept st → r ≡ or_range (fits_place s p) tt → sv ≡ unwire_leaves st s p → Unwires (view_of st) (view_of sv) s p r × Kept sv
unwire_means st sv r s p kept answer leaves =
    ranged st sv r (fits_place s p) tt (unwired st s p) (λ b _. Unwired (view_of st) (view_of b) s p ((view_of st).held s p)) answer leaves kept
    (λ t. let fits = fits_place_is s p t in ⊎_elim
    (λ (n : lookup st.words s p ≡ None).
    subst (λ b. Unwired (view_of st) (view_of b) s p ((view_of st).held s p) × Kept b) (sym (unwired_none st s p n))
    (subst (Unwired (view_of st) (view_of st) s p) (sym (held_none st kept s p fits.0 fits.1 n)) (same_refl (view_of st)), kept))
    (λ f. subst (λ b. Unwired (view_of st) (view_of b) s p ((view_of st).held s p) × Kept b) (sym (unwired_some st s p f.0 f.1))
    (unwire_at st kept s p fits.0 fits.1 f.0 f.1))
    (option_cases (lookup st.words s p)))

pub access_means : (st sv : State) (r : Result Access PmapRefusal) (s p : ℕ) (write : Bool) → Kept st → r ≡ access_answer st s p write → sv ≡ access_leaves st s p write → Accesses (view_of st) (view_of sv) s p write r × Kept sv
access_means st sv r s p write kept answer leaves =
    ranged st sv r (fits_place s p) (answered (holds st s p) write) (accessed st s p write) Done answer leaves kept
    (λ t. let fits = fits_place_is s p t in
    let same = ap (λ o. answered o write) (sym (held_holds st kept s p fits.0 fits.1)) in
    ⊎_elim
    (λ (n : lookup st.words s p ≡ None). missed same (answered_none st s p write n) (accessed_none st s p n write))
    (λ f. ⊎_elim
    (λ (y : allows (protection_of (second st f.0)) write ≡ true).
    let x = access_at st kept s p fits.0 fits.1 f.0 f.1 write in
    hit same (answered_hit st s p f.0 write f.1 y) (accessed_hit st s p f.0 f.1 write y) x.0 x.1)
    (λ (y : allows (protection_of (second st f.0)) write ≡ false). missed same (answered_denied st s p f.0 write f.1 y) (accessed_denied st s p f.0 f.1 write y))
    (cases_Bool (allows (protection_of (second st f.0)) write)))
    (option_cases (lookup st.words s p)))
  where
    Done : State → Access → Type 0
    Done b a = (a ≡ answered ((view_of st).held s p) write) × Accessed (view_of st) (view_of b) s p write a

    missed : answered (holds st s p) write ≡ answered ((view_of st).held s p) write → answered (holds st s p) write ≡ Miss → accessed st s p write ≡ st → Done (accessed st s p write) (answered (holds st s p) write) × Kept (accessed st s p write)
    missed same a b = (
      (same, subst (λ x. Accessed (view_of st) (view_of (accessed st s p write)) s p write x) (sym a) (subst (λ x. Same (view_of st) (view_of x)) (sym b) (same_refl (view_of st)))),
      subst Kept (sym b) kept,
    )

    hit : {f : ℕ} {c : State} → answered (holds st s p) write ≡ answered ((view_of st).held s p) write → answered (holds st s p) write ≡ Hit f → accessed st s p write ≡ c → Accessed (view_of st) (view_of c) s p write (Hit f) → Kept c →
        Done (accessed st s p write) (answered (holds st s p) write) × Kept (accessed st s p write)
    hit {f} same a b x keeps = (
      (same, subst (λ y. Accessed (view_of st) (view_of (accessed st s p write)) s p write y) (sym a) (subst (λ y. Accessed (view_of st) (view_of y) s p write (Hit f)) (sym b) x)),
      subst Kept (sym b) keeps,
    )

-- ---- enter
protection_cases : (q : ℕ) → fits_protection q ≡ true → (q ≡ 1) ⊎ (q ≡ 3)
protection_cases q t = grind (arith, nat_tests)

pub enter_means : (st sv : State) (r : Result (Unit {0}) PmapRefusal) (s p f q : ℕ) (w : Bool) → Kept st → r ≡ enter_answer st s p f q w → sv ≡ enter_leaves st s p f q w → Enters (view_of st) (view_of sv) s p f q w r × Kept sv
enter_means st sv r s p f q w kept answer leaves = ⊎_elim
    (λ (t : fits_entry s p f q ≡ true).
    let parts = and_parts (fits_place s p) (fits_frame f && fits_protection q) t in
    let place = fits_place_is s p parts.0 in
    let rest = and_parts (fits_frame f) (fits_protection q) parts.1 in
    ⊎_elim
    (λ (c : (w && crowded st s p) ≡ true).
    let full = and_parts w (crowded st s p) c in
    settle (Err WiredFull) st (answer ∙ cond-true _ _ _ t ∙ cond-true _ _ _ c) (leaves ∙ cond-true _ _ _ t ∙ cond-true _ _ _ c)
    (((t, full.0, crowded_means st kept s p place.0 place.1 full.1), same_refl (view_of st)), kept))
    (λ (c : (w && crowded st s p) ≡ false).
    let room = roomy c in
    let x = entering st kept s p place.0 place.1 f q (ltb-true f 256 rest.0) (protection_cases q rest.1) w room in
    settle (Ok tt) (entered st s p f q w) (answer ∙ cond-true _ _ _ t ∙ cond-false _ _ _ c) (leaves ∙ cond-true _ _ _ t ∙ cond-false _ _ _ c)
    ((record { fits = t; room = λ y. room_means st kept s p place.0 place.1 (room y) }, x.1), x.0))
    (cases_Bool (w && crowded st s p)))
    (λ (t : fits_entry s p f q ≡ false).
    settle (Err Range) st (answer ∙ cond-false _ _ _ t) (leaves ∙ cond-false _ _ _ t) ((t, same_refl (view_of st)), kept))
    (cases_Bool (fits_entry s p f q))
  where
    Goal : Result (Unit {0}) PmapRefusal → State → Type 0
    Goal a b = Enters (view_of st) (view_of b) s p f q w a × Kept b

    settle : (a : Result (Unit {0}) PmapRefusal) (b : State) → r ≡ a → sv ≡ b → Goal a b → Goal r sv
    settle a b x y z = subst (λ c. Goal c sv) (sym x) (subst (λ c. Goal a c) (sym y) z)

    roomy : (w && crowded st s p) ≡ false → w ≡ true → crowded st s p ≡ false
    roomy c y = ⊎_elim (λ n. absurd (both_ways w n y)) (λ n. n) (and_cases w (crowded st s p) c)

-- ---- clear
start_first : (k : ℕ) → get_or start.words k 0 ≡ 0
unfolding start
start_first k = get_d_same {X = ℕ} 16384 k 0

start_wired : (k : ℕ) → wired_at start k ≡ false
unfolding start
start_wired k = get_d_same 8192 k false

start_mark : (k : ℕ) → get_or start.marks k false ≡ false
unfolding start
start_mark k = get_d_same 256 k false

start_words_length : length start.words ≡ 16384
unfolding start
start_words_length = length-replicate {A = ℕ} 16384 0

start_marks_length : length start.marks ≡ 256
unfolding start
start_marks_length = length-replicate 256 false

start_wired_length : length start.wired ≡ 8192
unfolding start
start_wired_length = length-replicate 8192 false

start_next : start.next < 8
unfolding start
start_next = lit< tt

pub start_kept : Kept start
start_kept = record {
  words = start_words_length;
  marks = start_marks_length;
  wired = start_wired_length;
  next = start_next;
  slot = λ k b. inl (record { first = start_first (2 * k); second = start_first (2 * k + 1); wired = start_wired k });
  single = λ s p g h j k a b. absurd (omega (arith, a.word, start_first (2 * j), entry_above s p g));
  few = omega (arith, tally_zero (wired_at start) 8192 (λ j b. start_wired j));
}

no_slot : (k : ℕ) (e : Entry) → slot_at start k ≡ Some e → ⊥
no_slot k e h = none_some (sym (slot_unused start k (start_first (2 * k))) ∙ h)

pub start_clear : Cleared (view_of start)
start_clear = record {
  held = λ a b. shown_none (table start) (view_of start) (shows start start_kept) a b (λ h. no_slot h.at h.entry h.found);
  marks = fun_ext λ f. ⊎_elim
      (λ (t : (view_of start).modified f ≡ true). absurd (⊎_elim
      (λ m. both_ways _ (start_mark f) m)
      (λ x. no_slot x.at x.entry x.found)
      ((shows start start_kept).told f t)))
      (λ (t : (view_of start).modified f ≡ false). t)
      (cases_Bool ((view_of start).modified f));
}

-- From a change of slots and marks to its meaning as a pmap call. Assumes nothing.
use Rattle.std.proofs.Common.{◌≡◌, ℕ, ◌<◌, ◌≤◌, Bool, true, false, cond, not, ◌&&◌, ◌||◌, eqb, ◌⊎◌, Some, None, Option, sym, refl, ap, ◌∙◌, inl, inr, ⊎_elim, arith}
use mathlib.Core.Path.{fun_ext}
use Rattle.std.proofs.lemmas.Bool.{cases_eq, cases_lt, cases_Bool, eq-eqb, ne_eqb, eqb-true, cond-true, cond-false, both_ways, and_parts, and_from, or_cases, or_left, or_right, not-true}
use Rattle.pmap.specs.Meaning.{Mapping, View, Same, Put, PutForgetting, Dropped, Unmarked, Stays, Elsewhere, Crowded, is_wired, without, unmarked}
use Rattle.pmap.specs.Tally.{tally}
use Rattle.pmap.proofs.Crowds.{Picked, tally_picks, tally_least}
use Rattle.slots.specs.Slots.{Entry, Table, Single, Held, Bit, Shows, mapping_of, wired_elsewhere}
use Rattle.slots.specs.Changes.{Emptied, GoneBit, Filled, Rewritten, Cleaned, cleaned, clean_entry, Unchanged}

pub none_some : {A : Type 0} {x : A} → ◌≡◌ {A = Option A} None (Some x) → ⊥
none_some e = let z : ◌≡◌ {A = ℕ} 0 1 = cc in omega arith

pub some_inj : {A : Type 0} {x y : A} → Some x ≡ Some y → x ≡ y
some_inj e = cc

option_cases : {A : Type 0} (o : Option A) → (o ≡ None) ⊎ ((x : A) × (o ≡ Some x))
option_cases None = inl refl
option_cases (Some x) = inr (x, refl)

bool_same : (x y : Bool) → (x ≡ true → y ≡ true) → (y ≡ true → x ≡ true) → x ≡ y
bool_same true y f g = sym (f refl)
bool_same false true f g = g refl
bool_same false false f g = refl

-- what a view shows at a place that a slot holds, or that none holds
module _ (t : Table) (v : View) (S : Shows t v) (a b : ℕ) where
  pub shown_held : (h : Held t a b) → v.held a b ≡ Some (mapping_of h.entry)
  shown_held h =
      ap (λ x. v.held x b) (sym h.space) ∙ ap (λ y. v.held h.entry.space y) (sym h.page) ∙ S.holds h.at h.entry h.found

  pub shown_none : (Held t a b → ⊥) → v.held a b ≡ None
  shown_none n = ⊎_elim (λ e. e) (λ m. absurd (n (S.only a b m.0 m.1))) (option_cases (v.held a b))

  pub held_or_none : Held t a b ⊎ (v.held a b ≡ None)
  held_or_none = ⊎_elim (λ e. inr e) (λ m. inl (S.only a b m.0 m.1)) (option_cases (v.held a b))

  pub none_held : v.held a b ≡ None → Held t a b → ⊥
  none_held e h = none_some (sym e ∙ shown_held h)

-- two tables whose slots hold the same places with the same mappings
pub held_same : (t u : Table) (v w : View) → Shows t v → Shows u w → (a b : ℕ) → ((h : Held t a b) → (k : Held u a b) × (mapping_of k.entry ≡ mapping_of h.entry)) → (Held u a b → Held t a b) → w.held a b ≡ v.held a b
held_same t u v w S T a b there back = ⊎_elim
    (λ h. shown_held u w T a b (there h).0 ∙ ap Some (there h).1 ∙ sym (shown_held t v S a b h))
    (λ e. shown_none u w T a b (λ k. none_held t v S a b e (back k)) ∙ sym e)
    (held_or_none t v S a b)

-- the slots and marks are the same
module _ (t u : Table) (v w : View) (S : Shows t v) (T : Shows u w) (U : Unchanged t u) where
  bit_there : (f : ℕ) → Bit t f → Bit u f
  bit_there f x = record { at = x.at; entry = x.entry; found = U.slots x.at ∙ x.found; frame = x.frame; on = x.on }

  bit_back : (f : ℕ) → Bit u f → Bit t f
  bit_back f x = record { at = x.at; entry = x.entry; found = sym (U.slots x.at) ∙ x.found; frame = x.frame; on = x.on }

  pub unchanged_same : Same v w
  unchanged_same = record {
    held = λ a b. held_same t u v w S T a b
        (λ h. (record { at = h.at; entry = h.entry; found = U.slots h.at ∙ h.found; space = h.space; page = h.page }, refl))
        (λ h. record { at = h.at; entry = h.entry; found = sym (U.slots h.at) ∙ h.found; space = h.space; page = h.page });
    marks = fun_ext λ f. bool_same (w.modified f) (v.modified f)
        (λ e. ⊎_elim (λ m. S.marks f (sym (U.marks f) ∙ m)) (λ x. S.bits f (bit_back f x)) (T.told f e))
        (λ e. ⊎_elim (λ m. T.marks f (U.marks f ∙ m)) (λ x. T.bits f (bit_there f x)) (S.told f e));
  }

-- a set of slots is emptied
module _ (t u : Table) (v w : View) (S : Shows t v) (T : Shows u w) (one : Single t) (gone : ℕ → Bool) (E : Emptied t u gone) where
  left_over : (k : ℕ) (e : Entry) → u.slot k ≡ Some e → (gone k ≡ false) × (t.slot k ≡ Some e)
  left_over k e h = ⊎_elim
      (λ (g : gone k ≡ true). absurd (none_some (sym (cond-true _ _ _ g) ∙ sym (E.slots k) ∙ h)))
      (λ (g : gone k ≡ false). (g, sym (cond-false _ _ _ g) ∙ sym (E.slots k) ∙ h))
      (cases_Bool (gone k))

  still : (k : ℕ) (e : Entry) → gone k ≡ false → t.slot k ≡ Some e → u.slot k ≡ Some e
  still k e g h = E.slots k ∙ cond-false _ _ _ g ∙ h

  held_back : (a b : ℕ) → Held u a b → Held t a b
  held_back a b h = record { at = h.at; entry = h.entry; found = (left_over h.at h.entry h.found).1; space = h.space; page = h.page }

  pub emptied_single : Single u
  emptied_single j k d e p q = one j k d e (left_over j d p).1 (left_over k e q).1

  -- a place whose slot goes is empty
  pub emptied_gone : (a b : ℕ) (h : Held t a b) → gone h.at ≡ true → w.held a b ≡ None
  emptied_gone a b h g = shown_none u w T a b (λ k.
      let o = left_over k.at k.entry k.found in
      both_ways (gone k.at) o.0
      (ap gone (one k.at h.at k.entry h.entry o.1 h.found (k.space ∙ sym h.space) (k.page ∙ sym h.page)) ∙ g))

  -- a place whose slot stays is as it was
  pub emptied_kept : (a b : ℕ) (h : Held t a b) → gone h.at ≡ false → w.held a b ≡ v.held a b
  emptied_kept a b h g =
      shown_held u w T a b (record { at = h.at; entry = h.entry; found = still h.at h.entry g h.found; space = h.space; page = h.page })
      ∙ sym (shown_held t v S a b h)

  -- an empty place stays empty
  pub emptied_none : (a b : ℕ) → v.held a b ≡ None → w.held a b ≡ None
  emptied_none a b e = shown_none u w T a b (λ k. none_held t v S a b e (held_back a b k))

  gone_bit : (f : ℕ) (x : Bit t f) → gone x.at ≡ true → GoneBit t gone f
  gone_bit f x g = record { at = x.at; entry = x.entry; found = x.found; goes = g; frame = x.frame; on = x.on }

  pub emptied_marks : w.modified ≡ v.modified
  emptied_marks = fun_ext λ f. bool_same (w.modified f) (v.modified f)
      (λ e. ⊎_elim
      (λ m. ⊎_elim (λ n. S.marks f n) (λ x. S.bits f (record { at = x.at; entry = x.entry; found = x.found; frame = x.frame; on = x.on })) (E.only f m))
      (λ x. S.bits f (record { at = x.at; entry = x.entry; found = (left_over x.at x.entry x.found).1; frame = x.frame; on = x.on }))
      (T.told f e))
      (λ e. ⊎_elim
      (λ m. T.marks f (E.kept f m))
      (λ x. ⊎_elim
      (λ (g : gone x.at ≡ true). T.marks f (E.merged f (gone_bit f x g)))
      (λ (g : gone x.at ≡ false). T.bits f (record { at = x.at; entry = x.entry; found = still x.at x.entry g x.found; frame = x.frame; on = x.on }))
      (cases_Bool (gone x.at)))
      (S.told f e))

  -- just the slot of one place goes
  pub emptied_removes : (s p : ℕ) → ((k : ℕ) (e : Entry) → t.slot k ≡ Some e → gone k ≡ (eqb e.space s && eqb e.page p)) → Put v w s p None
  emptied_removes s p exact = record {
    here = ⊎_elim
        (λ h. emptied_gone s p h (exact h.at h.entry h.found ∙ and_from _ _ (eq-eqb _ _ h.space) (eq-eqb _ _ h.page)))
        (λ e. emptied_none s p e)
        (held_or_none t v S s p);
    others = λ a b far. ⊎_elim
        (λ h. ⊎_elim
        (λ (g : gone h.at ≡ true).
        let both = and_parts (eqb h.entry.space s) (eqb h.entry.page p) (sym (exact h.at h.entry h.found) ∙ g) in
        absurd (far (sym h.space ∙ eqb-true _ _ both.0) (sym h.page ∙ eqb-true _ _ both.1)))
        (λ (g : gone h.at ≡ false). emptied_kept a b h g)
        (cases_Bool (gone h.at)))
        (λ e. emptied_none a b e ∙ sym e)
        (held_or_none t v S a b);
    marks = emptied_marks;
  }

  -- just the slots of one frame go
  pub emptied_drops : (f : ℕ) → ((k : ℕ) (e : Entry) → t.slot k ≡ Some e → gone k ≡ eqb e.frame f) → Dropped v w f
  emptied_drops f exact = record {
    held = λ a b. ⊎_elim
        (λ h. ⊎_elim
        (λ (g : gone h.at ≡ true). emptied_gone a b h g
        ∙ sym (ap (without f) (shown_held t v S a b h) ∙ cond-true _ _ _ (sym (exact h.at h.entry h.found) ∙ g)))
        (λ (g : gone h.at ≡ false). emptied_kept a b h g ∙ shown_held t v S a b h
        ∙ sym (ap (without f) (shown_held t v S a b h) ∙ cond-false _ _ _ (sym (exact h.at h.entry h.found) ∙ g)))
        (cases_Bool (gone h.at)))
        (λ e. emptied_none a b e ∙ sym (ap (without f) e))
        (held_or_none t v S a b);
    marks = emptied_marks;
  }

  -- only unwired slots go
  pub emptied_stays : ((k : ℕ) (e : Entry) → t.slot k ≡ Some e → gone k ≡ true → e.wired ≡ false) → (a b : ℕ) → Stays (v.held a b) (w.held a b)
  emptied_stays loose a b = ⊎_elim
      (λ h. ⊎_elim
      (λ (g : gone h.at ≡ true). inr (emptied_gone a b h g, ap is_wired (shown_held t v S a b h) ∙ loose h.at h.entry h.found g))
      (λ (g : gone h.at ≡ false). inl (emptied_kept a b h g))
      (cases_Bool (gone h.at)))
      (λ e. inl (emptied_none a b e ∙ sym e))
      (held_or_none t v S a b)

-- one slot comes to hold `new`, and all others stay as they are
module _ (t u : Table) (k : ℕ) (e : Entry) (slots : (j : ℕ) → u.slot j ≡ cond (eqb j k) (Some e) (t.slot j)) where
  new_here : u.slot k ≡ Some e
  new_here = slots k ∙ cond-true _ _ _ (eq-eqb k k refl)

  old_there : (j : ℕ) → (j ≡ k → ⊥) → u.slot j ≡ t.slot j
  old_there j far = slots j ∙ cond-false _ _ _ (ne_eqb j k far)

-- an empty slot is filled, at a place that was empty
module _ (t u : Table) (v w : View) (S : Shows t v) (T : Shows u w) (k : ℕ) (e : Entry) (F : Filled t u k e) (free : v.held e.space e.page ≡ None) where
  other_slot : (j : ℕ) (d : Entry) → t.slot j ≡ Some d → j ≡ k → ⊥
  other_slot j d h q = none_some (sym F.empty ∙ ap t.slot (sym q) ∙ h)

  from_before : (j : ℕ) (d : Entry) → u.slot j ≡ Some d → ((j ≡ k) × (d ≡ e)) ⊎ (t.slot j ≡ Some d)
  from_before j d h = ⊎_elim
      (λ (q : j ≡ k). inl (q, some_inj (sym h ∙ ap u.slot q ∙ new_here t u k e F.slots)))
      (λ (q : j ≡ k → ⊥). inr (sym (old_there t u k e F.slots j q) ∙ h))
      (cases_eq j k)

  to_after : (j : ℕ) (d : Entry) → t.slot j ≡ Some d → u.slot j ≡ Some d
  to_after j d h = old_there t u k e F.slots j (other_slot j d h) ∙ h

  apart_from_new : (j : ℕ) (d : Entry) → t.slot j ≡ Some d → d.space ≡ e.space → d.page ≡ e.page → ⊥
  apart_from_new j d h p q = none_held t v S e.space e.page free (record { at = j; entry = d; found = h; space = p; page = q })

  pub filled_single : Single t → Single u
  filled_single one i j c d p q x y = ⊎_elim
      (λ i_new. ⊎_elim
      (λ j_new. i_new.0 ∙ sym j_new.0)
      (λ j_old. absurd (apart_from_new j d j_old (sym x ∙ ap (λ z. z.space) i_new.1) (sym y ∙ ap (λ z. z.page) i_new.1)))
      (from_before j d q))
      (λ i_old. ⊎_elim
      (λ j_new. absurd (apart_from_new i c i_old (x ∙ ap (λ z. z.space) j_new.1) (y ∙ ap (λ z. z.page) j_new.1)))
      (λ j_old. one i j c d i_old j_old x y)
      (from_before j d q))
      (from_before i c p)

  pub filled_puts : Put v w e.space e.page (Some (mapping_of e))
  filled_puts = record {
    here = T.holds k e (new_here t u k e F.slots);
    others = λ a b far. held_same t u v w S T a b
        (λ h. (record { at = h.at; entry = h.entry; found = to_after h.at h.entry h.found; space = h.space; page = h.page }, refl))
        (λ h. ⊎_elim
        (λ n. absurd (far (sym h.space ∙ ap (λ z. z.space) n.1) (sym h.page ∙ ap (λ z. z.page) n.1)))
        (λ o. record { at = h.at; entry = h.entry; found = o; space = h.space; page = h.page })
        (from_before h.at h.entry h.found));
    marks = fun_ext λ f. bool_same (w.modified f) (v.modified f)
        (λ m. ⊎_elim
        (λ x. S.marks f (sym (F.marks f) ∙ x))
        (λ x. ⊎_elim
        (λ n. absurd (both_ways e.dirty F.clean (sym (ap (λ z. z.dirty) n.1) ∙ x.on)))
        (λ o. S.bits f (record { at = x.at; entry = x.entry; found = o; frame = x.frame; on = x.on }))
        (from_before x.at x.entry x.found))
        (T.told f m))
        (λ m. ⊎_elim
        (λ x. T.marks f (F.marks f ∙ x))
        (λ x. T.bits f (record { at = x.at; entry = x.entry; found = to_after x.at x.entry x.found; frame = x.frame; on = x.on }))
        (S.told f m));
  }

-- the set once a frame is added to it where a flag is on
abbrev pub added : (ℕ → Bool) → Bool → ℕ → ℕ → Bool
added set flag f g = set g || (flag && eqb g f)

-- an entry is rewritten in its slot
module _ (t u : Table) (v w : View) (S : Shows t v) (T : Shows u w) (one : Single t) (k : ℕ) (d e : Entry) (R : Rewritten t u k d e) where
  from_old : (j : ℕ) (c : Entry) → u.slot j ≡ Some c → ((j ≡ k) × (c ≡ e)) ⊎ ((j ≡ k → ⊥) × (t.slot j ≡ Some c))
  from_old j c h = ⊎_elim
      (λ (q : j ≡ k). inl (q, some_inj (sym h ∙ ap u.slot q ∙ new_here t u k e R.slots)))
      (λ (q : j ≡ k → ⊥). inr (q, sym (old_there t u k e R.slots j q) ∙ h))
      (cases_eq j k)

  -- the entry of a slot before, by the entry after
  before : (j : ℕ) (c : Entry) → u.slot j ≡ Some c → (b : Entry) × (t.slot j ≡ Some b) × (b.space ≡ c.space) × (b.page ≡ c.page)
  before j c h = ⊎_elim
      (λ n. (d, ap t.slot n.0 ∙ R.was, sym (ap (λ z. z.space) n.1 ∙ R.space), sym (ap (λ z. z.page) n.1 ∙ R.page)))
      (λ o. (c, o.1, refl, refl))
      (from_old j c h)

  pub rewritten_single : Single u
  rewritten_single i j b c p q x y =
      let m = before i b p in
      let n = before j c q in
      one i j m.0 n.0 m.1 n.1 (m.2 ∙ x ∙ sym n.2) (m.3 ∙ y ∙ sym n.3)

  pub rewritten_here : w.held d.space d.page ≡ Some (mapping_of e)
  rewritten_here =
      ap (λ a. w.held a d.page) (sym R.space) ∙ ap (λ b. w.held e.space b) (sym R.page) ∙ T.holds k e (new_here t u k e R.slots)

  pub rewritten_was : v.held d.space d.page ≡ Some (mapping_of d)
  rewritten_was = S.holds k d R.was

  pub rewritten_others : (a b : ℕ) → Elsewhere d.space d.page a b → w.held a b ≡ v.held a b
  rewritten_others a b far = held_same t u v w S T a b
      (λ h. (
        record {
          at = h.at;
          entry = h.entry;
          found = old_there t u k e R.slots h.at (λ q. far
              (sym h.space ∙ ap (λ z. z.space) (some_inj (sym h.found ∙ ap t.slot q ∙ R.was)))
              (sym h.page ∙ ap (λ z. z.page) (some_inj (sym h.found ∙ ap t.slot q ∙ R.was)))) ∙ h.found;
          space = h.space;
          page = h.page;
        },
        refl,
      ))
      (λ h. ⊎_elim
      (λ n. absurd (far (sym h.space ∙ ap (λ z. z.space) n.1 ∙ R.space) (sym h.page ∙ ap (λ z. z.page) n.1 ∙ R.page)))
      (λ o. record { at = h.at; entry = h.entry; found = o.1; space = h.space; page = h.page })
      (from_old h.at h.entry h.found))

  pub rewritten_marks : w.modified ≡ added v.modified e.dirty e.frame
  rewritten_marks = fun_ext λ f. bool_same (w.modified f) (added v.modified e.dirty e.frame f)
      (λ m. ⊎_elim
      (λ x. or_left _ _ (S.marks f (sym (R.marks f) ∙ x)))
      (λ x. ⊎_elim
      (λ n. or_right _ _ (and_from _ _ (sym (ap (λ z. z.dirty) n.1) ∙ x.on) (eq-eqb f e.frame (sym x.frame ∙ ap (λ z. z.frame) n.1))))
      (λ o. or_left _ _ (S.bits f (record { at = x.at; entry = x.entry; found = o.1; frame = x.frame; on = x.on })))
      (from_old x.at x.entry x.found))
      (T.told f m))
      (λ m. ⊎_elim
      (λ old. ⊎_elim
      (λ x. T.marks f (R.marks f ∙ x))
      (λ x. ⊎_elim
      (λ (q : x.at ≡ k).
      let same = some_inj (sym x.found ∙ ap t.slot q ∙ R.was) in
      T.bits f (record { at = k; entry = e; found = new_here t u k e R.slots; frame = R.frame ∙ sym (ap (λ z. z.frame) same) ∙ x.frame; on = R.stays (sym (ap (λ z. z.dirty) same) ∙ x.on) }))
      (λ (q : x.at ≡ k → ⊥). T.bits f (record { at = x.at; entry = x.entry; found = old_there t u k e R.slots x.at q ∙ x.found; frame = x.frame; on = x.on }))
      (cases_eq x.at k))
      (S.told f old))
      (λ new. let parts = and_parts e.dirty (eqb f e.frame) new in
      T.bits f (record { at = k; entry = e; found = new_here t u k e R.slots; frame = sym (eqb-true f e.frame parts.1); on = parts.0 }))
      (or_cases (v.modified f) (e.dirty && eqb f e.frame) m))

  -- where the modified bit does not change, the modified set does not either
  pub rewritten_same_marks : e.dirty ≡ d.dirty → w.modified ≡ v.modified
  rewritten_same_marks q = rewritten_marks ∙ fun_ext λ f. bool_same (added v.modified e.dirty e.frame f) (v.modified f)
      (λ m. ⊎_elim (λ x. x)
      (λ x. let parts = and_parts e.dirty (eqb f e.frame) x in
      S.bits f (record { at = k; entry = d; found = R.was; frame = sym R.frame ∙ sym (eqb-true f e.frame parts.1); on = sym q ∙ parts.0 }))
      (or_cases (v.modified f) (e.dirty && eqb f e.frame) m))
      (λ m. or_left _ _ m)

-- the mark of a frame and the bits of its slots go off
module _ (t u : Table) (v w : View) (S : Shows t v) (T : Shows u w) (f : ℕ) (C : Cleaned t u f) where
  -- an entry after, by the entry before
  after : (k : ℕ) (e : Entry) → t.slot k ≡ Some e → u.slot k ≡ Some (cond (eqb e.frame f) (clean_entry e) e)
  after k e h = C.slots k ∙ ap (cleaned f) h

  plain : (e : Entry) → (mapping_of (cond (eqb e.frame f) (clean_entry e) e) ≡ mapping_of e) × ((cond (eqb e.frame f) (clean_entry e) e).space ≡ e.space) × ((cond (eqb e.frame f) (clean_entry e) e).page ≡ e.page) × ((cond (eqb e.frame f) (clean_entry e) e).frame ≡ e.frame)
  plain e = elim (eqb e.frame f) as (λ q. (mapping_of (cond q (clean_entry e) e) ≡ mapping_of e) × ((cond q (clean_entry e) e).space ≡ e.space) × ((cond q (clean_entry e) e).page ≡ e.page) × ((cond q (clean_entry e) e).frame ≡ e.frame)) [ true ↦ (refl, refl, refl, refl) | false ↦ (refl, refl, refl, refl) ]

  earlier : (k : ℕ) (c : Entry) → u.slot k ≡ Some c → (e : Entry) × (t.slot k ≡ Some e) × (c ≡ cond (eqb e.frame f) (clean_entry e) e)
  earlier k c h = ⊎_elim
      (λ n. absurd (none_some (sym (ap (cleaned f) n) ∙ sym (C.slots k) ∙ h)))
      (λ s. (s.0, s.1, some_inj (sym h ∙ after k s.0 s.1)))
      (option_cases (t.slot k))

  pub cleaned_single : Single t → Single u
  cleaned_single one i j c d p q x y =
      let m = earlier i c p in
      let n = earlier j d q in
      one i j m.0 n.0 m.1 n.1
      (sym (ap (λ z. z.space) m.2 ∙ (plain m.0).1) ∙ x ∙ ap (λ z. z.space) n.2 ∙ (plain n.0).1)
      (sym (ap (λ z. z.page) m.2 ∙ (plain m.0).2) ∙ y ∙ ap (λ z. z.page) n.2 ∙ (plain n.0).2)

  pub cleaned_unmarks : Unmarked v w f
  cleaned_unmarks = record {
    held = λ a b. held_same t u v w S T a b
        (λ h. (record { at = h.at; entry = cond (eqb h.entry.frame f) (clean_entry h.entry) h.entry; found = after h.at h.entry h.found; space = (plain h.entry).1 ∙ h.space; page = (plain h.entry).2 ∙ h.page }, (plain h.entry).0))
        (λ h. let m = earlier h.at h.entry h.found in
        record { at = h.at; entry = m.0; found = m.1; space = sym (ap (λ z. z.space) m.2 ∙ (plain m.0).1) ∙ h.space; page = sym (ap (λ z. z.page) m.2 ∙ (plain m.0).2) ∙ h.page });
    marks = fun_ext λ g. bool_same (w.modified g) (unmarked v.modified f g)
        (λ m. ⊎_elim
        (λ x. and_from _ _ (S.marks g (sym (C.others g (not_it g x)) ∙ x)) (not_eqb g (not_it g x)))
        (λ x. let n = earlier x.at x.entry x.found in bit_left g x n.0 n.1 n.2)
        (T.told g m))
        (λ m. let parts = and_parts (v.modified g) (not (eqb g f)) m in
        let far : g ≡ f → ⊥ = (λ q. both_ways (eqb g f) (not-true (eqb g f) parts.1) (eq-eqb g f q)) in
        ⊎_elim
        (λ x. T.marks g (C.others g far ∙ x))
        (λ x. T.bits g (record { at = x.at; entry = x.entry; found = after x.at x.entry x.found ∙ ap Some (cond-false _ _ _ (ne_eqb _ _ (λ q. far (sym x.frame ∙ q)))); frame = x.frame; on = x.on }))
        (S.told g parts.0));
  }
    where
      not_it : (g : ℕ) → u.mark g ≡ true → g ≡ f → ⊥
      not_it g x q = both_ways (u.mark f) C.off (ap u.mark (sym q) ∙ x)

      not_eqb : (g : ℕ) → (g ≡ f → ⊥) → not (eqb g f) ≡ true
      not_eqb g far = ap not (ne_eqb g f far)

      bit_left : (g : ℕ) (x : Bit u g) (e : Entry) → t.slot x.at ≡ Some e → x.entry ≡ cond (eqb e.frame f) (clean_entry e) e → unmarked v.modified f g ≡ true
      bit_left g x e h q = ⊎_elim
          (λ (same : e.frame ≡ f). absurd (both_ways x.entry.dirty (ap (λ z. z.dirty) (q ∙ cond-true _ _ _ (eq-eqb _ _ same))) x.on))
          (λ (far : e.frame ≡ f → ⊥).
          let kept = q ∙ cond-false _ _ _ (ne_eqb e.frame f far) in
          let fr : e.frame ≡ g = sym (ap (λ z. z.frame) kept) ∙ x.frame in
          and_from _ _
          (S.bits g (record { at = x.at; entry = e; found = h; frame = fr; on = sym (ap (λ z. z.dirty) kept) ∙ x.on }))
          (not_eqb g (λ r. far (fr ∙ r))))
          (cases_eq e.frame f)

-- a slot that is counted: it holds a wired mapping of another place
record Counted (t : Table) (s p k : ℕ) : Type 0 where
  entry : Entry
  found : t.slot k ≡ Some entry
  wired : entry.wired ≡ true
  far : Elsewhere s p entry.space entry.page

counted : (t : Table) (s p k : ℕ) → wired_elsewhere s p (t.slot k) ≡ true → Counted t s p k
counted t s p k h = ⊎_elim
    (λ n. absurd (both_ways false refl (sym (ap (wired_elsewhere s p) n) ∙ h)))
    (λ e.
    let parts = and_parts e.0.wired (not (eqb e.0.space s && eqb e.0.page p)) (sym (ap (wired_elsewhere s p) e.1) ∙ h) in
    record {
      entry = e.0;
      found = e.1;
      wired = parts.0;
      far = λ x y. both_ways (eqb e.0.space s && eqb e.0.page p) (not-true _ parts.1) (and_from _ _ (eq-eqb _ _ x) (eq-eqb _ _ y));
    })
    (option_cases (t.slot k))

-- whether eight other places are wired, by counting the slots below n
module _ (t : Table) (v : View) (S : Shows t v) (s p n : ℕ) where
  pub crowded : Single t → 8 ≤ tally (λ k. wired_elsewhere s p (t.slot k)) n → Crowded v.held s p
  crowded one h = record {
    space = λ i. space_in (t.slot (P.pick i));
    page = λ i. page_in (t.slot (P.pick i));
    apart = λ i j x y a b.
        let c = at i x in
        let d = at j y in
        P.apart i j x y (one (P.pick i) (P.pick j) c.entry d.entry c.found d.found
        (sym (ap space_in c.found) ∙ a ∙ ap space_in d.found) (sym (ap page_in c.found) ∙ b ∙ ap page_in d.found));
    elsewhere = λ i x a b. let c = at i x in c.far (sym (ap space_in c.found) ∙ a) (sym (ap page_in c.found) ∙ b);
    wired = λ i x. let c = at i x in
        ap (λ o. is_wired (v.held (space_in o) (page_in o))) c.found ∙ ap is_wired (S.holds (P.pick i) c.entry c.found) ∙ c.wired;
  }
    where
      P : Picked (λ k. wired_elsewhere s p (t.slot k)) n 8
      P = tally_picks (λ k. wired_elsewhere s p (t.slot k)) n 8 h

      at : (i : ℕ) → i < 8 → Counted t s p (P.pick i)
      at i x = counted t s p (P.pick i) (P.passes i x)

      space_in : Option Entry → ℕ
      space_in None = 0
      space_in (Some e) = e.space

      page_in : Option Entry → ℕ
      page_in None = 0
      page_in (Some e) = e.page

  -- the slot of a place, where the view holds one
  seek : (a b : ℕ) (o : Option Mapping) → v.held a b ≡ o → ℕ
  seek a b None e = 0
  seek a b (Some m) e = (S.only a b m e).at

  seek_finds : (a b : ℕ) (o : Option Mapping) (e : v.held a b ≡ o) → is_wired o ≡ true → (d : Entry) × (t.slot (seek a b o e) ≡ Some d) × (d.space ≡ a) × (d.page ≡ b) × (d.wired ≡ true)
  unfolding seek
  seek_finds a b None e w = absurd (both_ways false refl w)
  seek_finds a b (Some m) e w =
      let h = S.only a b m e in
      (h.entry, h.found, h.space, h.page, ap (λ z. z.2) (some_inj (sym (shown_held t v S a b h) ∙ e)) ∙ w)

  pub not_crowded : ((k : ℕ) → n ≤ k → t.slot k ≡ None) → tally (λ k. wired_elsewhere s p (t.slot k)) n < 8 → Crowded v.held s p → ⊥
  not_crowded past less c =
      let least = tally_least (λ k. wired_elsewhere s p (t.slot k)) n 8 pick passes apart in omega arith
    where
      pick : ℕ → ℕ
      pick i = seek (c.space i) (c.page i) (v.held (c.space i) (c.page i)) refl

      at : (i : ℕ) → i < 8 → (d : Entry) × (t.slot (pick i) ≡ Some d) × (d.space ≡ c.space i) × (d.page ≡ c.page i) × (d.wired ≡ true)
      at i x = seek_finds (c.space i) (c.page i) (v.held (c.space i) (c.page i)) refl (c.wired i x)

      passes : (i : ℕ) → i < 8 → (pick i < n) × (wired_elsewhere s p (t.slot (pick i)) ≡ true)
      passes i x =
          let d = at i x in (
            ⊎_elim (λ lt. lt) (λ ge. absurd (none_some (sym (past (pick i) ge) ∙ d.1))) (cases_lt (pick i) n),
            ap (wired_elsewhere s p) d.1 ∙ and_from _ _ d.4 (ap not (other d.0 i x d.2 d.3)),
          )
        where
          other : (e : Entry) (i : ℕ) → i < 8 → e.space ≡ c.space i → e.page ≡ c.page i → (eqb e.space s && eqb e.page p) ≡ false
          other e i x a b = ⊎_elim
              (λ yes. let parts = and_parts (eqb e.space s) (eqb e.page p) yes in
              absurd (c.elsewhere i x (sym a ∙ eqb-true _ _ parts.0) (sym b ∙ eqb-true _ _ parts.1)))
              (λ no_more. no_more)
              (cases_Bool (eqb e.space s && eqb e.page p))

      apart : (i j : ℕ) → i < 8 → j < 8 → pick i ≡ pick j → i ≡ j
      apart i j x y q =
          let d = at i x in
          let e = at j y in
          let same = some_inj (sym d.1 ∙ ap t.slot q ∙ e.1) in
          c.apart i j x y (sym d.2 ∙ ap (λ z. z.space) same ∙ e.2) (sym d.3 ∙ ap (λ z. z.page) same ∙ e.3)

-- an enter in three steps: the old mapping goes, unwired ones are forgotten, the new one is put in
pub enters : (v x y w : View) (s p : ℕ) (m : Mapping) → Put v x s p None → ((a b : ℕ) → Stays (x.held a b) (y.held a b)) → y.modified ≡ x.modified → Put y w s p (Some m) → PutForgetting v w s p (Some m) v.modified
enters v x y w s p m first mid marks last = record {
  here = last.here;
  others = λ a b far. ⊎_elim
      (λ e. inl (last.others a b far ∙ e ∙ first.others a b far))
      (λ e. inr (last.others a b far ∙ e.0, ap is_wired (sym (first.others a b far)) ∙ e.1))
      (mid a b);
  marked = last.marks ∙ marks ∙ first.marks;
}

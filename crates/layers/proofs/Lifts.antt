-- What both halves of a replica did is what the replica did, and the halves stay twins. Assumes nothing.
use Rattle.std.proofs.Common.{◌≡◌, ℕ, ◌%◌, Bool, true, false, ◌&&◌, ◌||◌, eqb, is_some, Some, None, Ok, Err, Option, Result, sym, refl, ap, ◌∙◌, subst, inl, inr, ⊎_elim, arith}
use mathlib.Core.Path.{fun_ext}
use Rattle.std.proofs.lemmas.Bool.{both_ways, cases_Bool, cases_eq, cases_cond, cond-true}
use Rattle.std.proofs.lemmas.Bool.Decides.{when_true, when_false}
use Rattle.refusal.specs.declared.pmap.PmapRefusal.{PmapRefusal}
use Rattle.pmap.specs.declared.access.Access.{Access}
use Rattle.pmap.specs.declared.access.Access.TheVariants.{Hit, Miss}
use Rattle.pmap.specs.declared.interface.Pmap.{Ghosts}
use Rattle.pmap.specs.Meaning.{View, Mapping, is_wired, Stays, Elsewhere, Put, PutForgetting, EnterPasses, Enters, Lowers, lowered, Unwired, Unwires, allows, answered, marked, Accessed, Accesses}
use Rattle.pmap.specs.Ranges.{fits_place}
use Rattle.layers.specs.declared.replica.Replica.{Replica}
use Rattle.layers.specs.Agreement.{joint, ByParity}
use Rattle.layers.specs.Twins.{alike, agreed, replica, Twin, Twins}
use Rattle.layers.proofs.Halves.{agreed_same, twin_wired, forget_replica, never_refused, enter_joint}

-- at one place

twin_same : (x : Option Mapping) → Twin x x
twin_same None = tt
twin_same (Some m) = refl

twin_none : (y : Option Mapping) → is_wired y ≡ false → Twin None y
twin_none None h = tt
twin_none (Some n) h = h

none_twin : (x : Option Mapping) → is_wired x ≡ false → Twin x None
none_twin None h = tt
none_twin (Some m) h = h

stays_wired : (x x' : Option Mapping) → Stays x x' → is_wired x ≡ false → is_wired x' ≡ false
stays_wired x x' (inl e) h = ap is_wired e ∙ h
stays_wired x x' (inr e) h = ap is_wired e.0

stay_twins : (x y x' y' : Option Mapping) → Twin x y → Stays x x' → Stays y y' → Twin x' y'
stay_twins x y x' y' t (inl e) (inl d) = subst (λ z. Twin z y') (sym e) (subst (Twin x) (sym d) t)
stay_twins x y x' y' t (inl e) (inr d) =
    subst (Twin x') (sym d.0) (none_twin x' (ap is_wired e ∙ sym (twin_wired x y t) ∙ d.1))
stay_twins x y x' y' t (inr e) s =
    subst (λ z. Twin z y') (sym e.0) (twin_none y' (stays_wired y y' s (twin_wired x y t ∙ e.1)))

-- what the replica holds, both halves hold
agreed_first : (x y : Option Mapping) (m : Mapping) → agreed x y ≡ Some m → x ≡ Some m
agreed_first None y m e = e
agreed_first (Some n) None m e = let z : ◌≡◌ {A = ℕ} 0 1 = cc in absurd (omega arith)
agreed_first (Some n) (Some k) m e =
    ⊎_elim (λ h. sym h ∙ e) (λ h. let z : ◌≡◌ {A = ℕ} 0 1 = cc in absurd (omega arith)) (cases_cond (alike n k) (Some n) None (agreed (Some n) (Some k)) refl)

agreed_second : (x y : Option Mapping) (m : Mapping) → Twin x y → agreed x y ≡ Some m → y ≡ Some m
agreed_second None y m t e = let z : ◌≡◌ {A = ℕ} 0 1 = cc in absurd (omega arith)
agreed_second (Some n) None m t e = e
agreed_second (Some n) (Some k) m t e = ap Some (sym t) ∙ agreed_first (Some n) (Some k) m e

-- at all places

-- a call of both halves is the replica's call, and leaves the halves twins
pub record Lifts (v v' w w' : View) (Call : View → View → Type 0) : Type 0 where
  pub joint : Call (replica v w) (replica v' w')
  pub first : Call v v'
  pub second : Call w w'
  pub twins : Twins v' w'

-- the halves come to hold x and y at a place, and may forget elsewhere
module _ (v v' w w' : View) (s p : ℕ) (x y : Option Mapping) (mv mw : ℕ → Bool) (twins : Twins v w) (one : PutForgetting v v' s p x mv) (two : PutForgetting w w' s p y mw) where
  elsewhere_twin : (a b : ℕ) → Elsewhere s p a b → Twin (v'.held a b) (w'.held a b)
  elsewhere_twin a b n =
      stay_twins (v.held a b) (w.held a b) (v'.held a b) (w'.held a b) (twins a b) (one.others a b n) (two.others a b n)

  pub forget_twins : Twin x y → Twins v' w'
  forget_twins t a b =
      ⊎_elim
      (λ es. ⊎_elim
      (λ ep. subst (λ a. Twin (v'.held a b) (w'.held a b)) (sym es) (subst (λ b. Twin (v'.held s b) (w'.held s b)) (sym ep) (subst (λ z. Twin z (w'.held s p)) (sym one.here) (subst (Twin x) (sym two.here) t))))
      (λ np. elsewhere_twin a b (λ _ ep. np ep))
      (cases_eq b p))
      (λ ns. elsewhere_twin a b (λ es _. ns es))
      (cases_eq a s)

-- enter: the first half passed, so the second does

module _ (v v' w w' : View) (s p f q : ℕ) (wired : Bool) (twins : Twins v w) (pass : EnterPasses v s p f q wired) (one : PutForgetting v v' s p (Some (f, q, wired)) v.modified) where
  pub enter_lifts : {U : Type 0} (r : Result U PmapRefusal) → Enters w w' s p f q wired r → Lifts v v' w w' (λ a b. Enters a b s p f q wired r)
  enter_lifts (Ok u) h =
      let m : Option Mapping = Some (f, q, wired) in
      record {
        joint = enter_joint v v' w w' s p f q wired twins pass one (Ok u) h;
        first = (pass, one);
        second = h;
        twins = forget_twins v v' w w' s p m m v.modified w.modified twins one h.1 refl;
      }
  enter_lifts (Err e) h = absurd (never_refused v v' w w' s p f q wired twins pass one e h.0)

-- lower

lowered_agreed : (x y : Option Mapping) → Twin x y → agreed (lowered x) (lowered y) ≡ lowered (agreed x y)
lowered_agreed None y t = refl
lowered_agreed (Some m) None t = refl
lowered_agreed (Some m) (Some n) t =
    ap (λ k. agreed (lowered (Some m)) (lowered (Some k))) (sym t)
    ∙ agreed_same (lowered (Some m))
    ∙ ap lowered (sym (agreed_same (Some m)) ∙ ap (λ k. agreed (Some m) (Some k)) t)

lowered_twin : (x y : Option Mapping) → Twin x y → Twin (lowered x) (lowered y)
lowered_twin None None t = tt
lowered_twin None (Some n) t = t
lowered_twin (Some m) None t = t
lowered_twin (Some m) (Some n) t = ap (λ k. (k.0, 1, k.2)) t

loosely : (v w : View) (s p : ℕ) (x : Option Mapping) → Put v w s p x → PutForgetting v w s p x v.modified
loosely v w s p x h = record { here = h.here; others = λ a b n. inl (h.others a b n); marked = h.marks }

pub lower_lifts : {U : Type 0} (v v' w w' : View) (s p : ℕ) → Twins v w → fits_place s p ≡ true → Put v v' s p (lowered (v.held s p)) → (r : Result U PmapRefusal) → Lowers w w' s p r → Lifts v v' w w' (λ a b. Lowers a b s p r)
lower_lifts v v' w w' s p twins fits one (Ok u) h =
    let x = v.held s p in
    let y = w.held s p in
    record {
      joint = (
        fits,
        record {
          here = ap (λ z. agreed z (w'.held s p)) one.here ∙ ap (agreed (lowered x)) h.1.here ∙ lowered_agreed x y (twins s p);
          others = λ a b n. ap (λ z. agreed z (w'.held a b)) (one.others a b n) ∙ ap (agreed (v.held a b)) (h.1.others a b n);
          marks = ap (λ z f. z f || w'.modified f) one.marks ∙ ap (λ z f. v.modified f || z f) h.1.marks;
        },
      );
      first = (fits, one);
      second = h;
      twins = forget_twins v v' w w' s p (lowered x) (lowered y) v.modified w.modified twins (loosely v v' s p (lowered x) one) (loosely w w' s p (lowered y) h.1) (lowered_twin x y (twins s p));
    }
lower_lifts v v' w w' s p twins fits one (Err e) h = absurd (both_ways (fits_place s p) h.1 fits)

-- unwire: both halves hold the place

unwired_at : (v v' : View) (s p : ℕ) (o : Option Mapping) (m : Mapping) → o ≡ Some m → Unwired v v' s p o → PutForgetting v v' s p (Some (m.0, m.1, false)) v.modified
unwired_at v v' s p None m e h = let z : ◌≡◌ {A = ℕ} 0 1 = cc in absurd (omega arith)
unwired_at v v' s p (Some n) m e h = let same : n ≡ m = cc in subst (λ k. PutForgetting v v' s p (Some (k.0, k.1, false)) v.modified) same h

unwire_at : {U : Type 0} (v v' w w' : View) (s p : ℕ) (m : Mapping) → Twins v w → (replica v w).held s p ≡ Some m → fits_place s p ≡ true → Unwired v v' s p (v.held s p) → (r : Result U PmapRefusal) → Unwires w w' s p r → Lifts v v' w w' (λ a b. Unwires a b s p r)
unwire_at v v' w w' s p m twins held fits one (Ok u) h =
    let x : Option Mapping = Some (m.0, m.1, false) in
    let put = unwired_at v v' s p (v.held s p) m (agreed_first (v.held s p) (w.held s p) m held) one in
    let place = unwired_at w w' s p (w.held s p) m (agreed_second (v.held s p) (w.held s p) m (twins s p) held) h.1 in
    let both = forget_replica v v' w w' s p x x v.modified w.modified twins put place in
    record {
      joint = (fits, subst (Unwired (replica v w) (replica v' w') s p) (sym held) (subst (λ z. PutForgetting (replica v w) (replica v' w') s p z (replica v w).modified) (agreed_same x) both));
      first = (fits, one);
      second = h;
      twins = forget_twins v v' w w' s p x x v.modified w.modified twins put place refl;
    }
unwire_at v v' w w' s p m twins held fits one (Err e) h = absurd (both_ways (fits_place s p) h.1 fits)

some_value : (o : Option Mapping) → is_some o ≡ true → (m : Mapping) × (o ≡ Some m)
some_value None h = absurd (both_ways false refl h)
some_value (Some m) h = (m, refl)

pub unwire_lifts : {U : Type 0} (v v' w w' : View) (s p : ℕ) → Twins v w → is_some ((replica v w).held s p) ≡ true → fits_place s p ≡ true → Unwired v v' s p (v.held s p) → (r : Result U PmapRefusal) → Unwires w w' s p r → Lifts v v' w w' (λ a b. Unwires a b s p r)
unwire_lifts v v' w w' s p twins some = let m = some_value ((replica v w).held s p) some in unwire_at v v' w w' s p m.0 twins m.1

-- access

-- an access that a half can serve is a hit
pub hit : (v v' : View) (s p : ℕ) (write : Bool) (m : Mapping) (r : Result Access PmapRefusal) → v.held s p ≡ Some m → allows m.1 write ≡ true → fits_place s p ≡ true → Accesses v v' s p write r → (r ≡ Ok (Hit m.0)) × PutForgetting v v' s p (v.held s p) (marked v.modified write m.0)
hit v v' s p write m (Err e) held may fits h = absurd (both_ways (fits_place s p) h.1 fits)
hit v v' s p write m (Ok a) held may fits h =
    let is : a ≡ Hit m.0 = h.1.0 ∙ ap (λ o. answered o write) held ∙ cond-true (allows m.1 write) (Hit m.0) Miss may in
    (ap Ok is, subst (Accessed v v' s p write) is h.1.1)

as_it_was : (v : View) (s p : ℕ) → PutForgetting v v s p (v.held s p) v.modified
as_it_was v s p = record { here = refl; others = λ a b n. inl refl; marked = refl }

or_last : (a b c : Bool) → ((a || b) || c) ≡ ((a || c) || b)
or_last true b c = refl
or_last false true true = refl
or_last false true false = refl
or_last false false true = refl
or_last false false false = refl

or_or : (a b c : Bool) → (a || (b || c)) ≡ ((a || b) || c)
or_or true b c = refl
or_or false b c = refl

-- what the replica answers where both halves hold the place
joint_hit : (u u' : View) (s p : ℕ) (write : Bool) (m : Mapping) (r : Result Access PmapRefusal) → u.held s p ≡ Some m → allows m.1 write ≡ true → fits_place s p ≡ true → r ≡ Ok (Hit m.0) → PutForgetting u u' s p (u.held s p) (marked u.modified write m.0) → Accesses u u' s p write r
joint_hit u u' s p write m r held may fits is put =
    subst (Accesses u u' s p write) (sym is)
    (fits, (sym (ap (λ o. answered o write) held ∙ cond-true (allows m.1 write) (Hit m.0) Miss may), put))

module _ (v w : View) (s p : ℕ) (write : Bool) (m : Mapping) (r : Result Access PmapRefusal) (twins : Twins v w) (held : (replica v w).held s p ≡ Some m) (may : allows m.1 write ≡ true) (fits : fits_place s p ≡ true) where
  pub by_first : (v' : View) → Accesses v v' s p write r → (r ≡ Ok (Hit m.0)) × Accesses (replica v w) (replica v' w) s p write r × Twins v' w
  by_first v' h =
      let served = hit v v' s p write m r (agreed_first (v.held s p) (w.held s p) m held) may fits h in
      let marks = marked v.modified write m.0 in
      let both = forget_replica v v' w w s p (v.held s p) (w.held s p) marks w.modified twins served.1 (as_it_was w s p) in
      let same : (λ g. marks g || w.modified g) ≡ marked (replica v w).modified write m.0 = fun_ext λ g. or_last (v.modified g) (write && eqb g m.0) (w.modified g) in (
        served.0,
        joint_hit (replica v w) (replica v' w) s p write m r held may fits served.0 (subst (PutForgetting (replica v w) (replica v' w) s p ((replica v w).held s p)) same both),
        forget_twins v v' w w s p (v.held s p) (w.held s p) marks w.modified twins served.1 (as_it_was w s p) (twins s p),
      )

  pub by_second : (w' : View) → Accesses w w' s p write r → (r ≡ Ok (Hit m.0)) × Accesses (replica v w) (replica v w') s p write r × Twins v w'
  by_second w' h =
      let served = hit w w' s p write m r (agreed_second (v.held s p) (w.held s p) m (twins s p) held) may fits h in
      let marks = marked w.modified write m.0 in
      let both = forget_replica v v w w' s p (v.held s p) (w.held s p) v.modified marks twins (as_it_was v s p) served.1 in
      let same : (λ g. v.modified g || marks g) ≡ marked (replica v w).modified write m.0 = fun_ext λ g. or_or (v.modified g) (w.modified g) (write && eqb g m.0) in (
        served.0,
        joint_hit (replica v w) (replica v w') s p write m r held may fits served.0 (subst (PutForgetting (replica v w) (replica v w') s p ((replica v w).held s p)) same both),
        forget_twins v v w w' s p (v.held s p) (w.held s p) v.modified marks twins (as_it_was v s p) served.1 (twins s p),
      )

-- an access that both halves can serve, by the parity of the space
module _ {P Q : Type 0} {one : Ghosts P} {two : Ghosts Q} (r r' : Replica P Q one two) (s p : ℕ) (write : Bool) (m : Mapping) (a : Result Access PmapRefusal) (held : (joint r).held s p ≡ Some m) (may : allows m.1 write ≡ true) (fits : fits_place s p ≡ true) (served : ByParity r r' s (λ v w. Accesses v w s p write a)) where
  abbrev Lifted : View → View → Type 0
  Lifted v w = (a ≡ Ok (Hit m.0)) × Accesses (joint r) (replica v w) s p write a × Twins v w

  abbrev Half : View → View → Type 0
  Half v w = Accesses v w s p write a

  pub access_lifts : Lifted (one.view r'.first) (two.view r'.second)
  access_lifts =
      ⊎_elim
      (λ even.
      let h = when_true (Half (one.view r.first) (one.view r'.first) × (r'.second ≡ r.second)) (Half (two.view r.second) (two.view r'.second) × (r'.first ≡ r.first)) even served in
      subst (λ q. Lifted (one.view r'.first) (two.view q)) (sym h.1) (by_first (one.view r.first) (two.view r.second) s p write m a r.twins held may fits (one.view r'.first) h.0))
      (λ odd.
      let h = when_false (Half (one.view r.first) (one.view r'.first) × (r'.second ≡ r.second)) (Half (two.view r.second) (two.view r'.second) × (r'.first ≡ r.first)) odd served in
      subst (λ q. Lifted (one.view q) (two.view r'.second)) (sym h.1) (by_second (one.view r.first) (two.view r.second) s p write m a r.twins held may fits (two.view r'.second) h.0))
      (cases_Bool (eqb (s % 2) 0))

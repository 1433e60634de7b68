-- An enter into both halves of a replica is the replica's enter. Assumes nothing.
use Rattle.std.proofs.Common.{◌≡◌, ℕ, Bool, true, false, ◌||◌, Some, None, Ok, Err, Option, Result, sym, refl, ap, ◌∙◌, subst, inl, inr, arith}
use Rattle.std.proofs.lemmas.Bool.{both_ways, cond-true}
use Rattle.std.proofs.lemmas.Bool.Decides.{nat_tests}
use Rattle.refusal.specs.declared.pmap.PmapRefusal.{PmapRefusal}
use Rattle.refusal.specs.declared.pmap.PmapRefusal.TheVariants.{Range, WiredFull}
use Rattle.pmap.specs.Meaning.{View, Mapping, is_wired, Stays, PutForgetting, Crowded, EnterPasses, EnterRefused, Enters}
use Rattle.pmap.specs.Ranges.{fits_entry}
use Rattle.layers.specs.Twins.{same_mark, alike, agreed, replica, Twin, Twins}

-- at one place

mark_same : (b : Bool) → same_mark b b ≡ true
mark_same true = refl
mark_same false = refl

alike_same : (m : Mapping) → alike m m ≡ true
alike_same m =
    let mark : same_mark m.2 m.2 ≡ true = mark_same m.2 in
    grind (arith, nat_tests)

pub agreed_same : (x : Option Mapping) → agreed x x ≡ x
agreed_same None = refl
agreed_same (Some m) = cond-true (alike m m) (Some m) None (alike_same m)

agreed_none : (x : Option Mapping) → agreed x None ≡ None
agreed_none None = refl
agreed_none (Some m) = refl

pub twin_wired : (x y : Option Mapping) → Twin x y → is_wired y ≡ is_wired x
twin_wired None None t = refl
twin_wired None (Some n) t = t
twin_wired (Some m) None t = sym t
twin_wired (Some m) (Some n) t = ap (λ k. k.2) (sym t)

agreed_wired : (x y : Option Mapping) → Twin x y → is_wired (agreed x y) ≡ is_wired x
agreed_wired None y t = refl
agreed_wired (Some m) None t = sym t
agreed_wired (Some m) (Some n) t = ap (λ k. is_wired (agreed (Some m) (Some k))) (sym t) ∙ ap is_wired (agreed_same (Some m))

stay_agreed : (x y x' y' : Option Mapping) → Twin x y → Stays x x' → Stays y y' → Stays (agreed x y) (agreed x' y')
stay_agreed x y x' y' t (inl e) (inl d) = inl (ap (λ z. agreed z y') e ∙ ap (agreed x) d)
stay_agreed x y x' y' t (inl e) (inr d) =
    inr (ap (agreed x') d.0 ∙ agreed_none x', agreed_wired x y t ∙ sym (twin_wired x y t) ∙ d.1)
stay_agreed x y x' y' t (inr e) s = inr (ap (λ z. agreed z y') e.0, agreed_wired x y t ∙ e.1)

-- at all places

-- the halves come to hold x and y at a place, and may forget elsewhere
module _ (v v' w w' : View) (s p : ℕ) (x y : Option Mapping) (mv mw : ℕ → Bool) (twins : Twins v w) (one : PutForgetting v v' s p x mv) (two : PutForgetting w w' s p y mw) where
  pub forget_replica : PutForgetting (replica v w) (replica v' w') s p (agreed x y) (λ f. mv f || mw f)
  forget_replica =
      record {
        here = ap (λ z. agreed z (w'.held s p)) one.here ∙ ap (agreed x) two.here;
        others = λ a b n. stay_agreed (v.held a b) (w.held a b) (v'.held a b) (w'.held a b) (twins a b) (one.others a b n) (two.others a b n);
        marked = ap (λ z f. z f || w'.modified f) one.marked ∙ ap (λ z f. mv f || z f) two.marked;
      }

crowded_moved : (h k : ℕ → ℕ → Option Mapping) (s p : ℕ) → ((a b : ℕ) → is_wired (k a b) ≡ is_wired (h a b)) → Crowded h s p → Crowded k s p
crowded_moved h k s p same c =
    record {
      space = c.space;
      page = c.page;
      apart = c.apart;
      elsewhere = c.elsewhere;
      wired = λ i l. same (c.space i) (c.page i) ∙ c.wired i l;
    }

-- enter: the first half passed, so the second does

module _ (v v' w w' : View) (s p f q : ℕ) (wired : Bool) (twins : Twins v w) (pass : EnterPasses v s p f q wired) (one : PutForgetting v v' s p (Some (f, q, wired)) v.modified) where
  passes : EnterPasses (replica v w) s p f q wired
  passes =
      record {
        fits = pass.fits;
        room = λ e c. pass.room e (crowded_moved (replica v w).held v.held s p (λ a b. sym (agreed_wired (v.held a b) (w.held a b) (twins a b))) c);
      }

  pub never_refused : (e : PmapRefusal) → EnterRefused w s p f q wired e → ⊥
  never_refused Range h = both_ways (fits_entry s p f q) h pass.fits
  never_refused WiredFull h =
      pass.room h.1 (crowded_moved w.held v.held s p (λ a b. sym (twin_wired (v.held a b) (w.held a b) (twins a b))) h.2)

  pub enter_joint : {U : Type 0} (r : Result U PmapRefusal) → Enters w w' s p f q wired r → Enters (replica v w) (replica v' w') s p f q wired r
  enter_joint (Ok u) h =
      let m : Option Mapping = Some (f, q, wired) in
      (passes, subst (λ z. PutForgetting (replica v w) (replica v' w') s p z (replica v w).modified) (agreed_same m) (forget_replica v v' w w' s p m m v.modified w.modified twins one h.1))
  enter_joint (Err e) h = absurd (never_refused e h.0)

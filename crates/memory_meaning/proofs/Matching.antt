-- What the memory's calls do to the fit between its tables and what the pmap holds. Assumes nothing.
use Rattle.std.proofs.Common.{◌≡◌, ℕ, ◌<◌, Bool, true, false, cond, ◌&&◌, eqb, ◌⊎◌, List, [], ◌∷◌, ◌++◌, length, get_or, set, Some, None, Option, sym, refl, ap, ◌∙◌, inl, inr, ⊎_elim, arith, get_or-set_other}
use Rattle.std.proofs.ByRecursion.{All-weaker, All-push}
use Rattle.std.proofs.lemmas.Bool.{cases_eq, cases_Bool, cond-true, cond-false, both_ways, and_from, eq-eqb, or_left, or_right}
use Rattle.pmap.specs.Meaning.{Mapping, is_wired, Stays, Elsewhere, without as without_frame, lowered}
use Rattle.rules.specs.declared.region.Region.{Region}
use Rattle.rules.specs.declared.region.WiredPlace.{WiredPlace}
use Rattle.rules.specs.Lists.{first, any, without, changed}
use Rattle.rules.specs.State.{page_in}
use Rattle.rules.specs.Refusals.{cover, covers, begins, is_place, in_region, on_frame}
use Rattle.rules.specs.Rules.{with_protection}
use Rattle.memory_meaning.specs.Matches.{Covered, HeldWired, PlacesApart, Matches}
use Rattle.rules.proofs.Lists.{first_passes, any_append, all_without, any_without}
use Rattle.memory_meaning.proofs.Firsts.{none_some, some_inj, first_append, first_without, first_changed, all_untested, place_test, place_gone, apart_push, apart_without}

abbrev pub HeldAt : Type 0
HeldAt = ℕ → ℕ → Option Mapping

-- whether two places are one
pub cases_place : (a b c d : ℕ) → ((c ≡ a) × (d ≡ b)) ⊎ Elsewhere a b c d
cases_place a b c d = ⊎_elim
    (λ (x : c ≡ a). ⊎_elim (λ (y : d ≡ b). inl (x, y)) (λ (n : d ≡ b → ⊥). inr (λ _ y. n y)) (cases_eq d b))
    (λ (n : c ≡ a → ⊥). inr (λ x _. n x))
    (cases_eq c a)

move : (h : HeldAt) (a b c d : ℕ) → c ≡ a → d ≡ b → h c d ≡ h a b
move h a b c d x y = ap (λ z. h z d) x ∙ ap (h a) y

-- a wired mapping stays
stays_wired : (x y : Option Mapping) → Stays x y → is_wired x ≡ true → y ≡ x
stays_wired x y s w = ⊎_elim (λ e. e) (λ n. absurd (both_ways (is_wired x) n.1 w)) s

-- a mapping that is there was there
stays_some : (x y : Option Mapping) (m : Mapping) → Stays x y → y ≡ Some m → x ≡ Some m
stays_some x y m s e = ⊎_elim (λ q. sym q ∙ e) (λ n. absurd (none_some (sym n.0 ∙ e))) s

wired_was : (x y : Option Mapping) → Stays x y → is_wired y ≡ true → is_wired x ≡ true
wired_was x y s w = ⊎_elim (λ q. ap is_wired (sym q) ∙ w) (λ n. absurd (both_ways false refl (sym (ap is_wired n.0) ∙ w))) s

-- a new memory
pub match_none : (h : HeldAt) (ls : List (Option ℕ)) → ((a b : ℕ) → h a b ≡ None) → Matches h [] ls []
unfolding PlacesApart
match_none h ls n = record {
  covered = λ a b m e. absurd (none_some (sym (n a b) ∙ e));
  wired = tt;
  listed = λ a b w. absurd (both_ways false refl (sym (ap is_wired (n a b)) ∙ w));
  apart = tt;
}

module _ (h k : HeldAt) (rs : List Region) (ls : List (Option ℕ)) (ws : List WiredPlace) (M : Matches h rs ls ws) where
  -- unwired mappings vanish
  pub match_stays : ((a b : ℕ) → Stays (h a b) (k a b)) → Matches k rs ls ws
  match_stays s = record {
    covered = λ a b m e. M.covered a b m (stays_some (h a b) (k a b) m (s a b) e);
    wired = All-weaker (HeldWired h rs) (HeldWired k rs)
        (λ w x. record { region = x.region; covers = x.covers; holds = stays_wired (h w.space w.page) (k w.space w.page) (s w.space w.page) (ap is_wired x.holds) ∙ x.holds }) ws M.wired;
    listed = λ a b w. M.listed a b (wired_was (h a b) (k a b) (s a b) w);
    apart = M.apart;
  }

  -- a mapping of the frame of the place's object page is entered, not wired
  pub match_enter : (a p f : ℕ) (r : Region) → cover rs a p ≡ Some r → get_or ls (page_in r p) None ≡ Some f → any (is_place a p) ws ≡ false → k a p ≡ Some (f, r.protection, false) → ((c d : ℕ) → Elsewhere a p c d → Stays (h c d) (k c d)) → Matches k rs ls ws
  match_enter a p f r cov lies free here others = record {
    covered = λ c d m e. ⊎_elim
        (λ at.
        let q : m ≡ (f, r.protection, false) = some_inj (sym e ∙ move k a p c d at.0 at.1 ∙ here) in
        record {
          region = r;
          covers = ap (λ z. cover rs z d) at.0 ∙ ap (cover rs a) at.1 ∙ cov;
          lies = ap (λ z. get_or ls (page_in r z) None) at.1 ∙ lies ∙ ap (λ z. Some z.0) (sym q);
          right = λ t. sym (ap (λ z. z.1) q) ∙ t;
        })
        (λ far. M.covered c d m (stays_some (h c d) (k c d) m (others c d far) e))
        (cases_place a p c d);
    wired = all_untested (is_place a p) (HeldWired h rs) (HeldWired k rs)
        (λ w n x. record {
          region = x.region;
          covers = x.covers;
          holds = stays_wired _ _ (others w.space w.page (λ y z. both_ways _ n (and_from _ _ (eq-eqb _ _ y) (eq-eqb _ _ z)))) (ap is_wired x.holds) ∙ x.holds;
        }) ws free M.wired;
    listed = λ c d w. ⊎_elim
        (λ at. absurd (both_ways false refl (sym (ap is_wired (move k a p c d at.0 at.1 ∙ here)) ∙ w)))
        (λ far. M.listed c d (wired_was (h c d) (k c d) (others c d far) w))
        (cases_place a p c d);
    apart = M.apart;
  }

  -- the same, wired, and the place joins the wired ones
  pub match_wire : (a p f : ℕ) (r : Region) → cover rs a p ≡ Some r → get_or ls (page_in r p) None ≡ Some f → any (is_place a p) ws ≡ false → k a p ≡ Some (f, r.protection, true) → ((c d : ℕ) → Elsewhere a p c d → Stays (h c d) (k c d)) → Matches k rs ls (ws ++ (record { space = a; page = p; frame = f } ∷ []))
  unfolding any
  match_wire a p f r cov lies free here others = record {
    covered = λ c d m e. ⊎_elim
        (λ at.
        let q : m ≡ (f, r.protection, true) = some_inj (sym e ∙ move k a p c d at.0 at.1 ∙ here) in
        record {
          region = r;
          covers = ap (λ z. cover rs z d) at.0 ∙ ap (cover rs a) at.1 ∙ cov;
          lies = ap (λ z. get_or ls (page_in r z) None) at.1 ∙ lies ∙ ap (λ z. Some z.0) (sym q);
          right = λ t. sym (ap (λ z. z.1) q) ∙ t;
        })
        (λ far. M.covered c d m (stays_some (h c d) (k c d) m (others c d far) e))
        (cases_place a p c d);
    wired = All-push (HeldWired k rs) ws (record { space = a; page = p; frame = f })
        (all_untested (is_place a p) (HeldWired h rs) (HeldWired k rs)
        (λ w n x. record {
          region = x.region;
          covers = x.covers;
          holds = stays_wired _ _ (others w.space w.page (λ y z. both_ways _ n (and_from _ _ (eq-eqb _ _ y) (eq-eqb _ _ z)))) (ap is_wired x.holds) ∙ x.holds;
        }) ws free M.wired)
        (record { region = r; covers = cov; holds = here });
    listed = λ c d w. any_append (is_place c d) ws (record { space = a; page = p; frame = f } ∷ []) ∙ ⊎_elim
        (λ at. or_right _ _ (new_listed c d at.0 at.1))
        (λ far. or_left _ _ (M.listed c d (wired_was (h c d) (k c d) (others c d far) w)))
        (cases_place a p c d);
    apart = apart_push ws (record { space = a; page = p; frame = f }) M.apart free;
  }
    where
      new_listed : (c d : ℕ) → c ≡ a → d ≡ p → any (is_place c d) (record { space = a; page = p; frame = f } ∷ []) ≡ true
      new_listed c d x y = or_left _ _ (and_from _ _ (eq-eqb _ _ (sym x)) (eq-eqb _ _ (sym y)))

  -- the wired mark comes off, and the place leaves the wired ones
  pub match_unwire : (a p f q : ℕ) (t : Bool) → h a p ≡ Some (f, q, t) → k a p ≡ Some (f, q, false) → ((c d : ℕ) → Elsewhere a p c d → Stays (h c d) (k c d)) → Matches k rs ls (without (is_place a p) ws)
  match_unwire a p f q t was here others = record {
    covered = λ c d m e. ⊎_elim
        (λ at.
        let same : m ≡ (f, q, false) = some_inj (sym e ∙ move k a p c d at.0 at.1 ∙ here) in
        let x = M.covered c d (f, q, t) (move h a p c d at.0 at.1 ∙ was) in
        record { region = x.region; covers = x.covers; lies = x.lies ∙ ap (λ z. Some z.0) (sym same); right = λ y. x.right (sym (ap (λ z. z.1) same) ∙ y) })
        (λ far. M.covered c d m (stays_some (h c d) (k c d) m (others c d far) e))
        (cases_place a p c d);
    wired = all_untested (is_place a p) (HeldWired h rs) (HeldWired k rs)
        (λ w n x. record {
          region = x.region;
          covers = x.covers;
          holds = stays_wired _ _ (others w.space w.page (λ y z. both_ways _ n (and_from _ _ (eq-eqb _ _ y) (eq-eqb _ _ z)))) (ap is_wired x.holds) ∙ x.holds;
        })
        (without (is_place a p) ws) (place_gone a p ws M.apart) (all_without (is_place a p) (HeldWired h rs) ws M.wired);
    listed = λ c d w. ⊎_elim
        (λ at. absurd (both_ways false refl (sym (ap is_wired (move k a p c d at.0 at.1 ∙ here)) ∙ w)))
        (λ far. any_without (is_place a p) (is_place c d) (apart_tests c d far) ws ∙ M.listed c d (wired_was (h c d) (k c d) (others c d far) w))
        (cases_place a p c d);
    apart = apart_without (is_place a p) ws M.apart;
  }
    where
      apart_tests : (c d : ℕ) → Elsewhere a p c d → (w : WiredPlace) → is_place a p w ≡ true → is_place c d w ≡ false
      apart_tests c d far w e = ⊎_elim
          (λ y. let x = place_test a p w e in let z = place_test c d w y in absurd (far (sym z.0 ∙ x.0) (sym z.1 ∙ x.1)))
          (λ n. n)
          (cases_Bool (is_place c d w))

  -- the mappings of a frame with no wired mapping go, and its page y is resident no more
  pub match_evict : (f y : ℕ) → y < length ls → ((x : ℕ) → get_or ls x None ≡ Some f → x ≡ y) → get_or ls y None ≡ Some f → any (on_frame f) ws ≡ false → ((c d : ℕ) → k c d ≡ without_frame f (h c d)) → Matches k rs (set ls y None) ws
  match_evict f y fits only lies free drops = record {
    covered = λ c d m e.
        let was = drop_some (h c d) m (sym (drops c d) ∙ e) in
        let x = M.covered c d m was.0 in
        record {
          region = x.region;
          covers = x.covers;
          right = x.right;
          lies = get_or-set_other ls y (page_in x.region d) None None (λ q. was.1 (some_inj (sym x.lies ∙ ap (λ z. get_or ls z None) q ∙ lies))) ∙ x.lies;
        };
    wired = all_untested (on_frame f) (HeldWired h rs) (HeldWired k rs)
        (λ w n x. record {
          region = x.region;
          covers = x.covers;
          holds = drops w.space w.page ∙ ap (without_frame f) x.holds ∙ cond-false _ _ _ n;
        }) ws free M.wired;
    listed = λ c d w. M.listed c d (drop_wired (h c d) (sym (ap is_wired (drops c d)) ∙ w));
    apart = M.apart;
  }
    where
      drop_some : (o : Option Mapping) (m : Mapping) → without_frame f o ≡ Some m → (o ≡ Some m) × (m.0 ≡ f → ⊥)
      drop_some None m e = absurd (none_some e)
      drop_some (Some n) m e = ⊎_elim
          (λ (t : eqb n.0 f ≡ true). absurd (none_some (sym (cond-true _ _ _ t) ∙ e)))
          (λ (t : eqb n.0 f ≡ false).
          let same = some_inj (sym (cond-false _ _ _ t) ∙ e) in
          (ap Some same, λ q. both_ways _ t (eq-eqb _ _ (ap (λ z. z.0) same ∙ q))))
          (cases_Bool (eqb n.0 f))

      drop_wired : (o : Option Mapping) → is_wired (without_frame f o) ≡ true → is_wired o ≡ true
      drop_wired None e = e
      drop_wired (Some n) e = ⊎_elim
          (λ (t : eqb n.0 f ≡ true). absurd (both_ways false refl (sym (ap is_wired (cond-true _ _ _ t)) ∙ e)))
          (λ (t : eqb n.0 f ≡ false). sym (ap is_wired (cond-false _ _ _ t)) ∙ e)
          (cases_Bool (eqb n.0 f))

  -- a page that was not resident is loaded
  pub match_load : (x f : ℕ) → get_or ls x None ≡ None → Matches h rs (set ls x (Some f)) ws
  match_load x f out = record {
    covered = λ a b m e.
        let c = M.covered a b m e in
        record {
          region = c.region;
          covers = c.covers;
          right = c.right;
          lies = get_or-set_other ls x (page_in c.region b) (Some f) None (λ q. none_some (sym out ∙ sym (ap (λ z. get_or ls z None) q) ∙ c.lies)) ∙ c.lies;
        };
    wired = M.wired;
    listed = M.listed;
    apart = M.apart;
  }

  -- a region is added
  pub match_map : (r : Region) → Matches h (rs ++ (r ∷ [])) ls ws
  match_map r = record {
    covered = λ a b m e.
        let c = M.covered a b m e in
        record { region = c.region; covers = first_append (covers a b) rs (r ∷ []) c.region c.covers; lies = c.lies; right = c.right };
    wired = All-weaker (HeldWired h rs) (HeldWired h (rs ++ (r ∷ [])))
        (λ w x. record { region = x.region; covers = first_append (covers w.space w.page) rs (r ∷ []) x.region x.covers; holds = x.holds }) ws M.wired;
    listed = M.listed;
    apart = M.apart;
  }

  -- the region that begins at a place goes, with all mappings of its pages
  pub match_unmap : (a p : ℕ) (r : Region) → first (begins a p) rs ≡ Some r → any (in_region r) ws ≡ false → ((c d : ℕ) → k c d ≡ cond (covers c d r) None (h c d)) → Matches k (without (begins a p) rs) ls ws
  match_unmap a p r is free gone = record {
    covered = λ c d m e.
        let out = outside c d m e in
        let x = M.covered c d m (sym (gone c d ∙ cond-false _ _ _ out) ∙ e) in
        record { region = x.region; covers = first_without (covers c d) (begins a p) rs r is out ∙ x.covers; lies = x.lies; right = x.right };
    wired = all_untested (in_region r) (HeldWired h rs) (HeldWired k (without (begins a p) rs))
        (λ w n x. record {
          region = x.region;
          covers = first_without (covers w.space w.page) (begins a p) rs r is n ∙ x.covers;
          holds = gone w.space w.page ∙ cond-false _ _ _ n ∙ x.holds;
        }) ws free M.wired;
    listed = λ c d w. M.listed c d (still c d w);
    apart = M.apart;
  }
    where
      outside : (c d : ℕ) (m : Mapping) → k c d ≡ Some m → covers c d r ≡ false
      outside c d m e = ⊎_elim (λ t. absurd (none_some (sym (gone c d ∙ cond-true _ _ _ t) ∙ e))) (λ t. t) (cases_Bool (covers c d r))

      still : (c d : ℕ) → is_wired (k c d) ≡ true → is_wired (h c d) ≡ true
      still c d w = ⊎_elim
          (λ t. absurd (both_ways false refl (sym (ap is_wired (gone c d ∙ cond-true _ _ _ t)) ∙ w)))
          (λ t. sym (ap is_wired (gone c d ∙ cond-false _ _ _ t)) ∙ w)
          (cases_Bool (covers c d r))

  -- the region that begins at a place changes its protection; where it is 1, all mappings of its pages are lowered
  pub match_protect : (a p q : ℕ) (r : Region) → first (begins a p) rs ≡ Some r → any (in_region r) ws ≡ false → ((c d : ℕ) → k c d ≡ cond (covers c d r && eqb q 1) (lowered (h c d)) (h c d)) → (q ≡ 1) ⊎ (q ≡ 3) → Matches k (changed (begins a p) (with_protection q) rs) ls ws
  match_protect a p q r is free low right = record {
    covered = λ c d m e. covered_after c d m e;
    wired = all_untested (in_region r) (HeldWired h rs) (HeldWired k (changed (begins a p) (with_protection q) rs))
        (λ w n x. record {
          region = x.region;
          covers = ⊎_elim (λ same. same) (λ it. absurd (both_ways _ n (ap (λ z. covers w.space w.page z) (some_inj (sym is ∙ it.0)) ∙ first_passes (covers w.space w.page) rs x.region x.covers)))
              (first_changed (covers w.space w.page) (begins a p) (with_protection q) (λ _. refl) rs x.region x.covers);
          holds = low w.space w.page ∙ cond-false _ _ _ (ap (λ z. z && eqb q 1) n) ∙ x.holds;
        }) ws free M.wired;
    listed = λ c d w. M.listed c d (still c d w);
    apart = M.apart;
  }
    where
      low_some : (o : Option Mapping) (m : Mapping) → lowered o ≡ Some m → (n : Mapping) × (o ≡ Some n) × (m ≡ (n.0, 1, n.2))
      low_some None m e = absurd (none_some e)
      low_some (Some n) m e = (n, refl, sym (some_inj e))

      before : (c d : ℕ) (m : Mapping) → k c d ≡ Some m → (n : Mapping) × (h c d ≡ Some n) × (m.0 ≡ n.0) × ((m.1 ≡ 3 → n.1 ≡ 3) × (m.1 ≡ 3 → (covers c d r && eqb q 1) ≡ false))
      before c d m e = ⊎_elim
          (λ t. let x = low_some (h c d) m (sym (low c d ∙ cond-true _ _ _ t) ∙ e) in
          (x.0, x.1, ap (λ z. z.0) x.2, (λ y. absurd (let z = sym (ap (λ z. z.1) x.2) ∙ y in omega (arith, z)), λ y. absurd (let z = sym (ap (λ z. z.1) x.2) ∙ y in omega (arith, z)))))
          (λ t. (m, sym (low c d ∙ cond-false _ _ _ t) ∙ e, refl, (λ y. y, λ y. t)))
          (cases_Bool (covers c d r && eqb q 1))

      covered_after : (c d : ℕ) (m : Mapping) → k c d ≡ Some m → Covered (changed (begins a p) (with_protection q) rs) ls c d m
      covered_after c d m e =
          let n = before c d m e in
          let x = M.covered c d n.0 n.1 in
          ⊎_elim
          (λ same. record { region = x.region; covers = same; lies = x.lies ∙ ap Some (sym n.2); right = λ y. x.right (n.3.0 y) })
          (λ it. record {
            region = with_protection q x.region;
            covers = it.1;
            lies = x.lies ∙ ap Some (sym n.2);
            right = λ y. ⊎_elim
                (λ one. absurd (both_ways _ (n.3.1 y) (and_from _ _ (ap (covers c d) (some_inj (sym is ∙ it.0)) ∙ first_passes (covers c d) rs x.region x.covers) (eq-eqb _ _ one))))
                (λ three. three)
                right;
          })
          (first_changed (covers c d) (begins a p) (with_protection q) (λ _. refl) rs x.region x.covers)

      low_wired : (o : Option Mapping) → is_wired (lowered o) ≡ is_wired o
      low_wired None = refl
      low_wired (Some n) = refl

      still : (c d : ℕ) → is_wired (k c d) ≡ true → is_wired (h c d) ≡ true
      still c d w = ⊎_elim
          (λ t. sym (low_wired (h c d)) ∙ sym (ap is_wired (low c d ∙ cond-true _ _ _ t)) ∙ w)
          (λ t. sym (ap is_wired (low c d ∙ cond-false _ _ _ t)) ∙ w)
          (cases_Bool (covers c d r && eqb q 1))

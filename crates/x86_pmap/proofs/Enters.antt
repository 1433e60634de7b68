-- Enter: the place comes to hold the given mapping; only unwired mappings elsewhere go.
use Rattle.std.proofs.Common.{◌≡◌, ℕ, ◌+◌, ◌*◌, ◌/◌, ◌%◌, ◌<◌, ◌≤◌, Bool, true, false, cond, not, eqb, ◌⊎◌, Some, None, Option, sym, refl, ap, ◌∙◌, subst, inl, inr, ⊎_elim, arith}
use Rattle.std.proofs.lemmas.Bool.{and_parts, and_from, cases_Bool, cond-true, cond-false, eq-eqb, ne_eqb, eqb-true, leb-true, both_ways}
use Rattle.pmap.specs.Meaning.{Mapping, Same, Put, PutForgetting, Stays}
use Rattle.pmap.specs.Tally.{tally}
use Rattle.slots.specs.Slots.{Entry, mapping_of}
use Rattle.slots.specs.Changes.{Emptied}
use Rattle.slots.proofs.Shown.{filled_puts, enters, emptied_stays}
use Rattle.slots.proofs.Shown.{emptied_marks as stays_marks}
use Rattle.x86_words.specs.declared.walk.Walk.{Walk}
use Rattle.x86_words.specs.Words.{wired, protection_of, leaf_word}
use Rattle.x86_words.specs.Walks.{linear, walk}
use Rattle.x86_words.specs.State.{State, word_at, written, forgotten, reached, is_leaf, is_own, wired_beside, crowded, holds_wired, free_leaf, emptied, in_leaf, taken, directory_at, leaf_at, installed}
use Rattle.x86_words.proofs.Sweeps.{forgotten_emptying, emptied_emptying}
use Rattle.x86_words.proofs.Sets.{any_wired_is}
use Rattle.x86_pmap.specs.Kept.{Kept, Points, wired_leaf}
use Rattle.x86_pmap.specs.Views.{view_of}
use Rattle.x86_pmap.proofs.Fields.{fresh_mapped, fresh_frame, fresh_dirty, fresh_wired, fresh_writable, zero_wired}
use Rattle.x86_pmap.proofs.Tables.{table, slot_of, entry_of, Reaches, page_cases, walk_nothing, walk_reaches, slot_used, table_shows, table_single}
use Rattle.x86_pmap.proofs.Counts.{tally_but_one}
use Rattle.x86_pmap.proofs.Keeps.{written_there}
use Rattle.x86_pmap.proofs.Follows.{reaches_on, pages_in, pages_in_is, emptying_slots}
use Rattle.x86_pmap.proofs.Single.{one_kept, one_fewer, one_filled}
use Rattle.x86_pmap.proofs.Frames.{emptied_word, emptied_upper, emptied_kept}
use Rattle.x86_pmap.proofs.Places.{put_nothing, page_inside, page_space, page_page, held_nothing, forgotten_kept, forgotten_upper, forgotten_puts}
use Rattle.x86_pmap.proofs.Wirings.{crowded_few}
use Rattle.x86_pmap.proofs.Choices.{free_loose, free_low, free_high}
use Rattle.x86_pmap.proofs.Takes.{relinked_kept, relinked_same, here_points, leaf_word_is}

-- one position may become wired where fewer than eight others are
few_entered : (st u : State) (own : Option Walk) (at : ℕ) → tally (wired_beside st own) 8192 < 8
    → ((k : ℕ) → 3072 ≤ k → k < 8192 → (k ≡ at → ⊥) → wired (word_at u k) ≡ true → (wired (word_at st k) ≡ true) × (is_own own k ≡ false)) → tally (wired_leaf u) 8192 ≤ 8
few_entered st u own at few h =
    let less = tally_but_one (wired_leaf u) (wired_beside st own) at 8192 (λ k l far e.
    let parts = and_parts (is_leaf k) _ e in
    let q = h k (leb-true 3072 k parts.0) l far parts.1 in
    and_from _ _ parts.0 (and_from _ _ q.0 (ap not q.1))) in
    omega (arith, less, few)

module _ (s p : ℕ) (x : s < 4) (y : p < 262144) (st : State) (K : Kept st) (f q : ℕ) (on : Bool) (low : f < 256) (right : (q ≡ 1) ⊎ (q ≡ 3)) (room : on ≡ true → crowded st s p ≡ false) where
  abbrev word : ℕ
  word = leaf_word f q on

  fresh_protection : protection_of (leaf_word f q on) ≡ q
  fresh_protection = ap (λ b. cond b 3 1) (fresh_writable f q on low) ∙ ⊎_elim
      (λ (e : q ≡ 1). rw e refl)
      (λ (e : q ≡ 3). rw e refl)
      right

  fresh_mapping : ◌≡◌ {A = Mapping} (mapping_of (entry_of (linear s p) (leaf_word f q on))) (f, q, on)
  fresh_mapping = simp (fresh_frame f q on low, fresh_protection, fresh_wired f q on low)

  -- the word goes into an empty leaf word of the place
  module _ (v : State) (L : Kept v) (t : ℕ) (r : Reaches v (linear s p) t) (bare : word_at v (512 * t + linear s p % 512) ≡ 0) (empty : (view_of v).held s p ≡ None)
      (others : (k : ℕ) → 3072 ≤ k → k < 8192 → (k ≡ 512 * t + linear s p % 512 → ⊥) → wired (word_at v k) ≡ true → (wired (word_at st k) ≡ true) × (is_own (walk st.words (linear s p)) k ≡ false)) where
    few : (b : Bool) → on ≡ b → tally (wired_leaf (written v (512 * t + linear s p % 512) word)) 8192 ≤ 8
    few true e = few_entered st (written v (512 * t + linear s p % 512) word) (walk st.words (linear s p)) (512 * t + linear s p % 512) (crowded_few s p x y st K (room e))
        (λ k a b far h. others k a b far (sym (ap wired (written_there v L (512 * t + linear s p % 512) word (omega (arith, r.low)) (omega (arith, r.high)) k far)) ∙ h))
    few false e = one_fewer v L (linear s p) t word r (λ h. absurd (both_ways (wired word) (fresh_wired f q on low ∙ e) h))

    pub filled_kept : Kept (written v (512 * t + linear s p % 512) word)
    filled_kept = one_kept v L (linear s p) t word r (inr (fresh_mapped f q on low)) (few on refl)

    pub filled_there : Put (view_of v) (view_of (written v (512 * t + linear s p % 512) word)) s p (Some (f, q, on))
    filled_there =
        subst (Put (view_of v) (view_of u) s p) (ap Some fresh_mapping)
        (at_place (λ a b. Put (view_of v) (view_of u) a b (Some (mapping_of (entry_of (linear s p) word))))
        (filled_puts (table v) (table u) (view_of v) (view_of u) (table_shows v L) (table_shows u filled_kept) (linear s p) (entry_of (linear s p) word)
        (one_filled v L (linear s p) t word r filled_kept bare (fresh_mapped f q on low) (fresh_dirty f q on low))
        (from_place (λ a b. (view_of v).held a b ≡ None) empty)))
      where
        u : State
        u = written v (512 * t + linear s p % 512) word

        at_place : (P : ℕ → ℕ → Type 0) → P (linear s p / 262144) (linear s p % 262144) → P s p
        at_place P h = subst (λ a. P a p) (page_space s p x y) (subst (λ b. P (linear s p / 262144) b) (page_page s p x y) h)

        from_place : (P : ℕ → ℕ → Type 0) → P s p → P (linear s p / 262144) (linear s p % 262144)
        from_place P h = subst (λ b. P (linear s p / 262144) b) (sym (page_page s p x y)) (subst (λ a. P a p) (sym (page_space s p x y)) h)

  -- the place has a leaf
  install_there : (t : ℕ) → Reaches st (linear s p) t
      → Kept (written (forgotten st (512 * t + linear s p % 512)) (512 * t + linear s p % 512) word)
      × PutForgetting (view_of st) (view_of (written (forgotten st (512 * t + linear s p % 512)) (512 * t + linear s p % 512) word)) s p (Some (f, q, on)) (view_of st).modified
  install_there t r = (filled_kept v L t rv bare first.here others, enters (view_of st) (view_of v) (view_of v) (view_of (written v k word)) s p (f, q, on) first (λ a b. inl refl) refl (filled_there v L t rv bare first.here others))
    where
      k : ℕ
      k = 512 * t + linear s p % 512

      v : State
      v = forgotten st k

      L : Kept v
      L = forgotten_kept s p x y st K t r

      rv : Reaches v (linear s p) t
      rv = reaches_on st v K L (forgotten_upper s p x y st K t r) (linear s p) t r

      word_is : (j : ℕ) → word_at v j ≡ cond (eqb j k) 0 (word_at st j)
      word_is j = (forgotten_emptying st k K.size K.marked (omega (arith, r.high))).words j

      bare : word_at v k ≡ 0
      bare = word_is k ∙ cond-true _ 0 (word_at st k) (eq-eqb k k refl)

      first : Put (view_of st) (view_of v) s p None
      first = forgotten_puts s p x y st K t r

      others : (j : ℕ) → 3072 ≤ j → j < 8192 → (j ≡ k → ⊥) → wired (word_at v j) ≡ true → (wired (word_at st j) ≡ true) × (is_own (walk st.words (linear s p)) j ≡ false)
      others j a b far h = (ap wired (sym (word_is j ∙ cond-false _ 0 (word_at st j) (ne_eqb j k far))) ∙ h, ap (λ o. is_own o j) r.walks ∙ ne_eqb j k far)

  -- a leaf is taken for the place
  install_fresh : word_at st (1024 + linear s p / 512) ≡ 0
      → Kept (written (taken st (free_leaf st) s p) (leaf_at (free_leaf st) p) word)
      × PutForgetting (view_of st) (view_of (written (taken st (free_leaf st) s p) (leaf_at (free_leaf st) p) word)) s p (Some (f, q, on)) (view_of st).modified
  install_fresh z =
      rw at_is (filled_kept v L t rv bare empty others, enters (view_of st) (view_of st) (view_of v) (view_of (written v k word)) s p (f, q, on) (put_nothing (view_of st) s p None nothing) mid marks (filled_there v L t rv bare empty others))
    where
      t : ℕ
      t = free_leaf st

      t_low : 6 ≤ t
      t_low = free_low st K

      t_high : t ≤ 15
      t_high = free_high st K

      k : ℕ
      k = 512 * t + linear s p % 512

      at_is : leaf_at (free_leaf st) p ≡ 512 * free_leaf st + linear s p % 512
      at_is = omega arith

      j : ℕ
      j = directory_at s p

      j_is : 1024 + linear s p / 512 ≡ directory_at s p
      j_is = omega arith

      j_low : 1024 ≤ directory_at s p
      j_low = omega arith

      j_high : directory_at s p < 3072
      j_high = omega arith

      leaf : (i : ℕ) → in_leaf t i ≡ true → 3072 ≤ i
      leaf i e = let same = eqb-true (i / 512) t e in omega (arith, same, t_low)

      e₁ : State
      e₁ = emptied st (in_leaf t)

      K₁ : Kept e₁
      K₁ = emptied_kept st K (in_leaf t) leaf

      zero_j : word_at e₁ j ≡ 0
      zero_j = emptied_upper st K (in_leaf t) leaf j j_high ∙ ap (word_at st) (sym j_is) ∙ z

      bare₁ : (i : ℕ) → i / 512 ≡ t → word_at e₁ i ≡ 0
      bare₁ i e = emptied_word st K (in_leaf t) leaf i ∙ cond-true _ 0 (word_at st i) (eq-eqb (i / 512) t e)

      v : State
      v = taken st t s p

      L : Kept v
      L = relinked_kept e₁ K₁ t j t_low t_high j_low j_high zero_j bare₁

      same : Same (view_of e₁) (view_of v)
      same = relinked_same e₁ K₁ t j t_low t_high j_low j_high zero_j bare₁

      rv : Reaches v (linear s p) t
      rv = walk_reaches v L (linear s p) (page_inside s p x y) t t_low t_high (subst (λ i. Points (word_at v i) t) (sym j_is) (here_points e₁ K₁ t j t_low t_high j_low j_high zero_j bare₁))

      leaf_is : (i : ℕ) → 3072 ≤ i → i < 8192 → word_at v i ≡ word_at e₁ i
      leaf_is i a b = leaf_word_is e₁ K₁ t j t_low t_high j_low j_high zero_j bare₁ i a b

      bare : word_at v k ≡ 0
      bare = leaf_is k (omega (arith, t_low)) (omega (arith, t_high)) ∙ bare₁ k (omega arith)

      others : (i : ℕ) → 3072 ≤ i → i < 8192 → (i ≡ k → ⊥) → wired (word_at v i) ≡ true → (wired (word_at st i) ≡ true) × (is_own (walk st.words (linear s p)) i ≡ false)
      others i a b far h = (
        ⊎_elim
            (λ (g : in_leaf t i ≡ true). absurd (both_ways (wired (word_at v i)) (ap wired (leaf_is i a b ∙ emptied_word st K (in_leaf t) leaf i ∙ cond-true _ 0 (word_at st i) g) ∙ zero_wired) h))
            (λ (g : in_leaf t i ≡ false). ap wired (sym (leaf_is i a b ∙ emptied_word st K (in_leaf t) leaf i ∙ cond-false _ 0 (word_at st i) g)) ∙ h)
            (cases_Bool (in_leaf t i)),
        ap (λ o. is_own o i) (walk_nothing st K (linear s p) (page_inside s p x y) z),
      )

      E : Emptied (table st) (table e₁) (pages_in st (in_leaf t))
      E = emptying_slots st e₁ K K₁ (λ i h. inl (emptied_upper st K (in_leaf t) leaf i h)) (in_leaf t) leaf (emptied_emptying st (in_leaf t) K.size)

      -- the leaf holds no wired mapping
      loose : (n : ℕ) (d : Entry) → slot_of st n ≡ Some d → pages_in st (in_leaf t) n ≡ true → d.wired ≡ false
      loose n d h g =
          let u = slot_used st K n d h in
          let same_leaf : u.leaf ≡ t = in_it u.leaf n (sym (pages_in_is st (in_leaf t) n u.leaf u.reaches) ∙ g) in
          ap (λ b. b.wired) u.is ∙ ap (λ l. wired (word_at st (512 * l + n % 512))) same_leaf ∙ off (n % 512) (omega arith)
        where
          in_it : (l n : ℕ) → in_leaf t (512 * l + n % 512) ≡ true → l ≡ t
          in_it l n e = let q = eqb-true ((512 * l + n % 512) / 512) t e in omega (arith, q)

          off : (i : ℕ) → i < 512 → wired (word_at st (512 * t + i)) ≡ false
          off i l = ⊎_elim
              (λ (e : wired (word_at st (512 * t + i)) ≡ true). absurd (both_ways (holds_wired st.words t) (free_loose st K) ((any_wired_is st.words (512 * t) 512).1 (i, l, e))))
              (λ (e : wired (word_at st (512 * t + i)) ≡ false). e)
              (cases_Bool (wired (word_at st (512 * t + i))))

      mid : (a b : ℕ) → Stays ((view_of st).held a b) ((view_of v).held a b)
      mid a b = ⊎_elim
          (λ e. inl (same.held a b ∙ e))
          (λ e. inr (same.held a b ∙ e.0, e.1))
          (emptied_stays (table st) (table e₁) (view_of st) (view_of e₁) (table_shows st K) (table_shows e₁ K₁) (table_single st K) (pages_in st (in_leaf t)) E loose a b)

      marks : (view_of v).modified ≡ (view_of st).modified
      marks = same.marks ∙ stays_marks (table st) (table e₁) (view_of st) (view_of e₁) (table_shows st K) (table_shows e₁ K₁) (table_single st K) (pages_in st (in_leaf t)) E

      nothing : (view_of st).held s p ≡ None
      nothing = held_nothing s p x y st K z

      empty : (view_of v).held s p ≡ None
      empty = ⊎_elim (λ e. e ∙ nothing) (λ e. e.0) (mid s p)

  pub enter_means : Kept (installed st s p word) × PutForgetting (view_of st) (view_of (installed st s p word)) s p (Some (f, q, on)) (view_of st).modified
  enter_means = ⊎_elim
      (λ z. rw (ap (λ o. reached o (written (taken st (free_leaf st) s p) (leaf_at (free_leaf st) p) word) (λ w. written (forgotten st w.leaf) w.leaf word)) (walk_nothing st K (linear s p) (page_inside s p x y) z)) (install_fresh z))
      (λ l. rw (ap (λ o. reached o (written (taken st (free_leaf st) s p) (leaf_at (free_leaf st) p) word) (λ w. written (forgotten st w.leaf) w.leaf word)) l.1.walks) (install_there l.0 l.1))
      (page_cases st K (linear s p) (page_inside s p x y))

-- The calls that name a place, find and remove among them: the facts are kept, and the view changes as a pmap's does.
use Rattle.std.proofs.Common.{◌≡◌, ℕ, ◌+◌, ◌*◌, ◌/◌, ◌%◌, ◌<◌, Bool, true, false, ◌&&◌, eqb, Some, None, Option, sym, refl, ap, ◌∙◌, subst, inl, ⊎_elim, arith}
use Rattle.std.proofs.lemmas.Bool.{and_parts, and_from, cond-true, both_ways, eq-eqb, eqb-true}
use Rattle.std.proofs.lemmas.List.{length-set}
use Rattle.pmap.specs.Meaning.{View, Mapping, Put}
use Rattle.slots.specs.Slots.{Entry}
use Rattle.slots.proofs.Shown.{emptied_removes}
use Rattle.x86_words.specs.Words.{wired}
use Rattle.x86_words.specs.Walks.{linear}
use Rattle.x86_words.specs.State.{State, word_at, merged, forgotten, reached, found, found_in, removed}
use Rattle.x86_words.proofs.Sweeps.{forgotten_emptying}
use Rattle.x86_pmap.specs.Kept.{Kept}
use Rattle.x86_pmap.specs.Views.{view_of}
use Rattle.x86_pmap.proofs.Fields.{zero_wired}
use Rattle.x86_pmap.proofs.Tables.{table, slot_of, Reaches, page_cases, walk_nothing, slot_used, table_shows, table_single, found_reached, found_nothing, fits_true}
use Rattle.x86_pmap.proofs.Keeps.{Alike, kept_marks, written_there}
use Rattle.x86_pmap.proofs.Follows.{reach_inj, reach_same, pages_in, pages_in_is, emptying_slots}
use Rattle.x86_pmap.proofs.Single.{one_kept, one_fewer}

pub bool_same : (x y : Bool) → (x ≡ true → y ≡ true) → (y ≡ true → x ≡ true) → x ≡ y
bool_same true y f g = sym (f refl)
bool_same false true f g = g refl
bool_same false false f g = refl

-- nothing changes where nothing is held
pub put_nothing : (v : View) (s p : ℕ) (m : Option Mapping) → v.held s p ≡ m → Put v v s p m
put_nothing v s p m e = record { here = e; others = λ a b far. refl; marks = refl }

-- a place and its linear page
module _ (s p : ℕ) (x : s < 4) (y : p < 262144) where
  pub page_inside : linear s p < 1048576
  page_inside = omega arith

  pub page_space : linear s p / 262144 ≡ s
  page_space = omega arith

  pub page_page : linear s p % 262144 ≡ p
  page_page = omega arith

  pub page_is : (n : ℕ) → n / 262144 ≡ s → n % 262144 ≡ p → n ≡ linear s p
  page_is n a b = omega (arith, a, b)

  module _ (st : State) (K : Kept st) where
    pub held_found : (view_of st).held s p ≡ found st s p
    held_found = cond-true _ _ None (fits_true s p x y)

    pub held_reached : (t : ℕ) → Reaches st (linear s p) t → (view_of st).held s p ≡ found_in (word_at st (512 * t + linear s p % 512))
    held_reached t r = held_found ∙ found_reached st K s p (linear s p) t r refl

    pub held_nothing : word_at st (1024 + linear s p / 512) ≡ 0 → (view_of st).held s p ≡ None
    held_nothing z = held_found ∙ found_nothing st K s p (linear s p) page_inside refl z

    -- the leaf word of the place is forgotten
    module _ (t : ℕ) (r : Reaches st (linear s p) t) where
      private_merged : Kept (merged st (word_at st (512 * t + linear s p % 512)))
      private_merged = kept_marks st _ (length-set st.marks _ _ ∙ K.marked) K

      merged_reaches : Reaches (merged st (word_at st (512 * t + linear s p % 512))) (linear s p) t
      merged_reaches = record { within = r.within; low = r.low; high = r.high; points = r.points; walks = r.walks }

      pub forgotten_kept : Kept (forgotten st (512 * t + linear s p % 512))
      forgotten_kept = one_kept (merged st (word_at st (512 * t + linear s p % 512))) private_merged (linear s p) t 0 merged_reaches (inl refl)
          (one_fewer (merged st (word_at st (512 * t + linear s p % 512))) private_merged (linear s p) t 0 merged_reaches (λ e. absurd (both_ways (wired 0) zero_wired e)))

      pub forgotten_upper : (k : ℕ) → k < 3072 → Alike (word_at st k) (word_at (forgotten st (512 * t + linear s p % 512)) k)
      forgotten_upper k h = inl (written_there (merged st (word_at st (512 * t + linear s p % 512))) private_merged (512 * t + linear s p % 512) 0 (omega (arith, r.low)) (omega (arith, r.high)) k (omega (arith, r.low)))

      pub forgotten_puts : Put (view_of st) (view_of (forgotten st (512 * t + linear s p % 512))) s p None
      forgotten_puts = emptied_removes (table st) (table u) (view_of st) (view_of u) (table_shows st K) (table_shows u forgotten_kept) (table_single st K) (pages_in st gone)
          (emptying_slots st u K forgotten_kept forgotten_upper gone (λ k e. let q = eqb-true k at e in omega (arith, q, r.low)) (forgotten_emptying st at K.size K.marked (omega (arith, r.high)))) s p exact
        where
          at : ℕ
          at = 512 * t + linear s p % 512

          u : State
          u = forgotten st at

          gone : ℕ → Bool
          gone j = eqb j at

          both : (j b : ℕ) → Reaches st j b → eqb (512 * b + j % 512) at ≡ (eqb (j / 262144) s && eqb (j % 262144) p)
          both j b q = bool_same _ _
              (λ e. let same = reach_inj st K j (linear s p) b t q r (eqb-true _ _ e) in
              and_from _ _ (eq-eqb _ _ (ap (λ i. i / 262144) same ∙ page_space)) (eq-eqb _ _ (ap (λ i. i % 262144) same ∙ page_page)))
              (λ e. let parts = and_parts (eqb (j / 262144) s) (eqb (j % 262144) p) e in
              let same = page_is j (eqb-true _ _ parts.0) (eqb-true _ _ parts.1) in
              let leaf = reach_same st j b t q (subst (λ i. Reaches st i t) (sym same) r) in
              eq-eqb _ _ (ap (λ i. 512 * i + j % 512) leaf ∙ ap (λ i. 512 * t + i % 512) same))

          exact : (j : ℕ) (e : Entry) → slot_of st j ≡ Some e → pages_in st gone j ≡ (eqb e.space s && eqb e.page p)
          exact j e h =
              let w = slot_used st K j e h in
              pages_in_is st gone j w.leaf w.reaches ∙ both j w.leaf w.reaches ∙ sym (ap (λ z. eqb z.space s && eqb z.page p) w.is)

    -- remove
    pub remove_means : Kept (removed st s p) × Put (view_of st) (view_of (removed st s p)) s p None
    remove_means = ⊎_elim
        (λ z. rw (ap (λ w. reached w st (λ v. forgotten st v.leaf)) (walk_nothing st K (linear s p) page_inside z)) (K, put_nothing (view_of st) s p None (held_nothing z)))
        (λ l. rw (ap (λ w. reached w st (λ v. forgotten st v.leaf)) l.1.walks) (forgotten_kept l.0 l.1, forgotten_puts l.0 l.1))
        (page_cases st K (linear s p) page_inside)

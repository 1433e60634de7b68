-- A change of the leaf word of one page.
use Rattle.std.proofs.Common.{◌≡◌, ℕ, ◌+◌, ◌*◌, ◌/◌, ◌%◌, ◌<◌, ◌≤◌, true, false, cond, eqb, ◌⊎◌, None, sym, refl, ap, ◌∙◌, inl, inr, ⊎_elim, arith}
use Rattle.std.proofs.lemmas.Bool.{cases_eq, cond-true, cond-false, eq-eqb, ne_eqb}
use Rattle.pmap.specs.Tally.{tally}
use Rattle.slots.specs.Changes.{Filled, Rewritten, Unchanged}
use Rattle.x86_words.specs.Words.{dirty, wired, frame_of}
use Rattle.x86_words.specs.State.{State, word_at, written}
use Rattle.x86_pmap.specs.Kept.{Kept, Mapped, Owner, wired_leaf}
use Rattle.x86_pmap.proofs.Fields.{mapped_present, zero_present}
use Rattle.x86_pmap.proofs.Tables.{table, slot_of, slot_in, entry_of, Reaches, slot_reached}
use Rattle.x86_pmap.proofs.Keeps.{Alike, kin_kept, fewer, written_here, written_there, written_kin}
use Rattle.x86_pmap.proofs.Follows.{reach_inj, reaches_on, both_slots}

-- the directory word of a page that comes to a leaf
pub reach_owner : (st : State) (n t k : ℕ) → Reaches st n t → k ≡ 512 * t + n % 512 → Owner st (k / 512)
reach_owner st n t k r e =
    let h = r.within in
    let q : k / 512 ≡ t = omega arith in
    rw q (record { at = 1024 + n / 512; low = omega arith; high = omega arith; points = r.points })

module _ (st : State) (K : Kept st) (n t w : ℕ) (r : Reaches st n t) where
  at_low : 3072 ≤ 512 * t + n % 512
  at_low = omega (arith, r.low)

  at_high : 512 * t + n % 512 < 8192
  at_high = omega (arith, r.high)

  upper : (k : ℕ) → k < 3072 → Alike (word_at st k) (word_at (written st (512 * t + n % 512) w) k)
  upper k h = inl (written_there st K (512 * t + n % 512) w at_low at_high k (omega (arith, at_low)))

  module _ (L : Kept (written st (512 * t + n % 512) w)) where
    pub one_slot : (j : ℕ) → slot_of (written st (512 * t + n % 512) w) j ≡ cond (eqb j n) (slot_in n w) (slot_of st j)
    one_slot j = ⊎_elim
        (λ (e : j ≡ n). rw e (slot_reached v L n t (reaches_on st v K L upper n t r) ∙ ap (slot_in n) (written_here st K (512 * t + n % 512) w at_low at_high) ∙ sym (cond-true _ _ _ (eq-eqb n n refl))))
        (λ (e : j ≡ n → ⊥). others j e ∙ sym (cond-false _ _ _ (ne_eqb j n e)))
        (cases_eq j n)
      where
        v : State
        v = written st (512 * t + n % 512) w

        others : (j : ℕ) → (j ≡ n → ⊥) → slot_of v j ≡ slot_of st j
        others = both_slots st v K L upper (λ j a b. (j ≡ n → ⊥) → b ≡ a) (λ j far. refl)
            (λ j u q far. ap (slot_in j) (written_there st K (512 * t + n % 512) w at_low at_high (512 * u + j % 512) (λ same. far (reach_inj st K j n u t q r same))))

    -- a word in use is rewritten with the same frame
    pub one_rewritten : Mapped (word_at st (512 * t + n % 512)) → Mapped w → frame_of w ≡ frame_of (word_at st (512 * t + n % 512)) → (dirty (word_at st (512 * t + n % 512)) ≡ true → dirty w ≡ true)
        → Rewritten (table st) (table (written st (512 * t + n % 512) w)) n (entry_of n (word_at st (512 * t + n % 512))) (entry_of n w)
    one_rewritten m m' frame stays = record {
      was = slot_reached st K n t r ∙ cond-true _ _ None (mapped_present _ m);
      slots = λ j. one_slot j ∙ ap (λ x. cond (eqb j n) x (slot_of st j)) (cond-true _ _ None (mapped_present _ m'));
      space = refl;
      page = refl;
      frame = frame;
      stays = stays;
      marks = λ f. refl;
    }

    -- an empty word is filled
    pub one_filled : word_at st (512 * t + n % 512) ≡ 0 → Mapped w → dirty w ≡ false → Filled (table st) (table (written st (512 * t + n % 512) w)) n (entry_of n w)
    one_filled z m clean = record {
      empty = slot_reached st K n t r ∙ ap (slot_in n) z ∙ cond-false _ _ None zero_present;
      slots = λ j. one_slot j ∙ ap (λ x. cond (eqb j n) x (slot_of st j)) (cond-true _ _ None (mapped_present _ m));
      clean = clean;
      marks = λ f. refl;
    }

    -- an empty word stays empty
    pub one_unchanged : word_at st (512 * t + n % 512) ≡ 0 → w ≡ 0 → Unchanged (table st) (table (written st (512 * t + n % 512) w))
    one_unchanged z e = record {
      slots = λ j. one_slot j ∙ ⊎_elim
          (λ (q : j ≡ n). cond-true _ _ _ (eq-eqb j n q) ∙ ap (slot_in n) (e ∙ sym z) ∙ sym (slot_reached st K n t r) ∙ ap (slot_of st) (sym q))
          (λ (q : j ≡ n → ⊥). cond-false _ _ _ (ne_eqb j n q))
          (cases_eq j n);
      marks = λ f. refl;
    }

  -- the change keeps the facts, unless too many are wired then
  pub one_kept : (w ≡ 0) ⊎ Mapped w → tally (wired_leaf (written st (512 * t + n % 512) w)) 8192 ≤ 8 → Kept (written st (512 * t + n % 512) w)
  one_kept m few = kin_kept st (written st (512 * t + n % 512) w) K
      (written_kin st K (512 * t + n % 512) w at_low at_high (⊎_elim (λ z. inl z) (λ x. inr (x, reach_owner st n t (512 * t + n % 512) r refl)) m)) few

  pub one_fewer : (wired w ≡ true → wired (word_at st (512 * t + n % 512)) ≡ true) → tally (wired_leaf (written st (512 * t + n % 512) w)) 8192 ≤ 8
  one_fewer h = fewer st (written st (512 * t + n % 512) w) K (λ j p l e. ⊎_elim
      (λ (q : j ≡ 512 * t + n % 512). ap (λ i. wired (word_at st i)) q ∙ h (sym (ap wired (ap (word_at (written st (512 * t + n % 512) w)) q ∙ written_here st K (512 * t + n % 512) w at_low at_high)) ∙ e))
      (λ (q : j ≡ 512 * t + n % 512 → ⊥). sym (ap wired (written_there st K (512 * t + n % 512) w at_low at_high j q)) ∙ e)
      (cases_eq j (512 * t + n % 512)))

-- Changes of slots that keep what a board keeps.
use Rattle.std.proofs.Common.{◌≡◌, ℕ, zero, suc, ◌+◌, ◌<◌, ◌≤◌, Bool, true, ◌⊎◌, length, sym, ◌∙◌, subst, inl, inr, ⊎_elim, arith}
use Rattle.std.proofs.lemmas.Bool.{cases_eq, both_ways}
use Rattle.pmap.specs.Tally.{tally}
use Rattle.powerpc_words.specs.State.{State, first, second, wired_at}
use Rattle.powerpc_words.proofs.HashLaws.{entry_above}
use Rattle.powerpc_pmap.specs.Kept.{At, Shaped, Unused, Used, Kept}

-- what passes one test passes another
pub tally_mono : (f g : ℕ → Bool) (n : ℕ) → ((j : ℕ) → j < n → f j ≡ true → g j ≡ true) → tally f n ≤ tally g n
unfolding tally
tally_mono f g zero h = omega arith
tally_mono f g (suc n) h =
    let less = tally_mono f g n (λ j b. h j (omega arith)) in
    let last : f n ≡ true → g n ≡ true = h n (omega arith) in
    grind (arith, less, last)

-- the same, but for one number
pub tally_one : (f g : ℕ → Bool) (k n : ℕ) → ((j : ℕ) → j < n → f j ≡ true → (g j ≡ true) ⊎ (j ≡ k)) → tally f n ≤ tally g n + 1
unfolding tally
tally_one f g k zero h = omega arith
tally_one f g k (suc n) h = ⊎_elim
    (λ (q : n ≡ k).
    let less = tally_mono f g n (λ j b t. ⊎_elim (λ x. x) (λ y. absurd (omega arith)) (h j (omega arith) t)) in
    grind (arith, less))
    (λ (q : n ≡ k → ⊥).
    let less = tally_one f g k n (λ j b. h j (omega arith)) in
    let last : f n ≡ true → (g n ≡ true) ⊎ (n ≡ k) = h n (omega arith) in
    grind (arith, less, last))
    (cases_eq n k)

-- what may become of a slot: it stays, it is emptied, or its second word or wired mark change while its place and frame stay
pub data Tame (st sv : State) (k : ℕ) : Type 0 where
  same : first sv k ≡ first st k → second sv k ≡ second st k → wired_at sv k ≡ wired_at st k → Tame st sv k
  gone : Unused sv k → Tame st sv k
  recolored : first sv k ≡ first st k → 0 < first st k → (Shaped (second st k) → Shaped (second sv k)) → (wired_at sv k ≡ true → wired_at st k ≡ true) → Tame st sv k

at_back : (st sv : State) (s p : ℕ) (side : Bool) (k : ℕ) → first sv k ≡ first st k → At sv s p side k → At st s p side k
at_back st sv s p side k e a = record { below = a.below; space = a.space; page = a.page; group = a.group; word = sym e ∙ a.word }

tame_at : (st sv : State) (s p : ℕ) (side : Bool) (k : ℕ) → Tame st sv k → At sv s p side k → At st s p side k
tame_at st sv s p side k (same a b c) at = at_back st sv s p side k a at
tame_at st sv s p side k (gone u) at = absurd (omega (arith, u.first, at.word, entry_above s p side))
tame_at st sv s p side k (recolored a l f w) at = at_back st sv s p side k a at

pub tame_wired : (st sv : State) (k : ℕ) → Tame st sv k → wired_at sv k ≡ true → wired_at st k ≡ true
tame_wired st sv k (same a b c) t = sym c ∙ t
tame_wired st sv k (gone u) t = absurd (both_ways (wired_at sv k) u.wired t)
tame_wired st sv k (recolored a l f w) t = w t

tame_used : (st sv : State) (k : ℕ) → first sv k ≡ first st k → (Shaped (second st k) → Shaped (second sv k)) → Used st k → Used sv k
tame_used st sv k a f u = record {
  space = u.space;
  page = u.page;
  side = u.side;
  at = at_back sv st u.space u.page u.side k (sym a) u.at;
  shape = f u.shape;
}

tame_slot : (st sv : State) (k : ℕ) → Tame st sv k → Unused st k ⊎ Used st k → Unused sv k ⊎ Used sv k
tame_slot st sv k (same a b c) (inl u) = inl (record { first = a ∙ u.first; second = b ∙ u.second; wired = c ∙ u.wired })
tame_slot st sv k (same a b c) (inr u) = inr (tame_used st sv k a (subst Shaped (sym b)) u)
tame_slot st sv k (gone u) old = inl u
tame_slot st sv k (recolored a l f w) (inl u) = absurd (omega (arith, u.first, l))
tame_slot st sv k (recolored a l f w) (inr u) = inr (tame_used st sv k a f u)

module _ (st sv : State) (kept : Kept st) (tame : (k : ℕ) → k < 8192 → Tame st sv k) where
  pub kept_tame : length sv.words ≡ length st.words → length sv.marks ≡ length st.marks → length sv.wired ≡ length st.wired → sv.next < 8 → Kept sv
  kept_tame nw nm nd x = record {
    words = nw ∙ kept.words;
    marks = nm ∙ kept.marks;
    wired = nd ∙ kept.wired;
    next = x;
    slot = λ k b. tame_slot st sv k (tame k b) (kept.slot k b);
    single = λ s p g h j k a b. kept.single s p g h j k (tame_at st sv s p g j (tame j a.below) a) (tame_at st sv s p h k (tame k b.below) b);
    few = let less = tally_mono (wired_at sv) (wired_at st) 8192 (λ k b. tame_wired st sv k (tame k b)) in omega (arith, less, kept.few);
  }

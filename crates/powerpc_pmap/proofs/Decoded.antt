-- The slots that a board's words spell.
use Rattle.std.proofs.lemmas.Bool.Decides.{nat_tests}
use Rattle.std.proofs.Common.{◌≡◌, ℕ, ◌<◌, ◌≤◌, Bool, false, cond, ◌&&◌, ltb, get_or, Some, None, Option, ap, ◌∙◌, arith}
use Rattle.std.proofs.lemmas.Bool.{cond-true, cond-false, and_from, and_left, and_right, lt-ltb, le-ltb}
use Rattle.slots.specs.Slots.{Entry, Table}
use Rattle.slots.proofs.Shown.{none_some, some_inj}
use Rattle.powerpc_words.specs.Fields.{frame_of, protection_of, changed}
use Rattle.powerpc_words.specs.State.{State, first, second, wired_at}
use Rattle.powerpc_words.proofs.HashLaws.{space_in, page_in, entry_above, entry_space, entry_page}
use Rattle.powerpc_pmap.specs.Kept.{At, Used, Kept}

abbrev pub entry_at : State → ℕ → Entry
entry_at st k = record {
  space = space_in (first st k);
  page = page_in k (first st k);
  frame = frame_of (second st k);
  protection = protection_of (second st k);
  wired = wired_at st k;
  dirty = changed (second st k);
}

unfoldable pub slot_at : State → ℕ → Option Entry
slot_at st k = cond (ltb k 8192 && ltb 0 (first st k)) (Some (entry_at st k)) None

abbrev pub table : State → Table
table st = record { slot = slot_at st; mark = λ f. get_or st.marks f false }

module _ (st : State) (k : ℕ) where
  pub slot_used : k < 8192 → 0 < first st k → slot_at st k ≡ Some (entry_at st k)
  unfolding slot_at
  slot_used b h = cond-true _ _ _ (and_from _ _ (lt-ltb _ _ b) (lt-ltb _ _ h))

  pub slot_unused : first st k ≡ 0 → slot_at st k ≡ None
  unfolding slot_at
  slot_unused e = grind (arith, nat_tests, and_right)

  pub slot_past : 8192 ≤ k → slot_at st k ≡ None
  unfolding slot_at
  slot_past h = cond-false _ _ _ (and_left _ _ (le-ltb k 8192 h))

  pub slot_some : (e : Entry) → slot_at st k ≡ Some e → (k < 8192) × (0 < first st k) × (entry_at st k ≡ e)
  unfolding slot_at
  slot_some e h = grind (arith, nat_tests, some_inj, none_some)

  -- a slot that has the first word of a place spells that place
  pub at_used : (s p : ℕ) (side : Bool) → At st s p side k → slot_at st k ≡ Some (entry_at st k)
  at_used s p side at = slot_used at.below (omega (arith, at.word, entry_above s p side))

  pub at_space : (s p : ℕ) (side : Bool) → At st s p side k → (entry_at st k).space ≡ s
  at_space s p side at = ap space_in at.word ∙ entry_space s p side at.space at.page

  pub at_page : (s p : ℕ) (side : Bool) → At st s p side k → (entry_at st k).page ≡ p
  at_page s p side at = grind (arith, nat_tests, entry_page)

  -- a slot that holds an entry is in use
  pub some_used : Kept st → (e : Entry) → slot_at st k ≡ Some e → Used st k
  some_used kept e h = grind (arith, nat_tests, slot_some)

-- slots with the same words and wired mark hold the same
pub slot_same : (st sv : State) (k : ℕ) → first sv k ≡ first st k → second sv k ≡ second st k → wired_at sv k ≡ wired_at st k → slot_at sv k ≡ slot_at st k
unfolding slot_at
slot_same st sv k a b c = rw (a, b, c)

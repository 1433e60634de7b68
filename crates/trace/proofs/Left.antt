-- Laws of what is left of a file.
use Rattle.std.proofs.Common.{◌≡◌, ℕ, zero, suc, ◌+◌, ◌-◌, ◌*◌, ◌/◌, ◌%◌, ◌<◌, ◌≤◌, Bool, true, false, cond, ltb, List, [], ◌∷◌, length, get_or, Some, None, Option, refl, ap, ◌∙◌, arith}
use Rattle.std.proofs.lemmas.Bool.Decides.{nat_tests}
use Rattle.std.specs.Iterator.{YieldsFirst}
use Rattle.trace.specs.declared.reader.Reader.{Reader}
use Rattle.trace.specs.declared.record.Entry.{Entry}
use Rattle.trace.specs.Format.{entry_at}
use Rattle.trace.specs.Left.{entries_from, entries_left}

pub none_left : (b : List ℕ) (at : ℕ) → length b ≤ at → entries_from b at ((length b - at) / 12) ≡ []
none_left b at e =
    let none : (length b - at) / 12 ≡ 0 = omega (arith, e) in
    ap (entries_from b at) none

pub one_left : (b : List ℕ) (at : ℕ) → 2 ≤ at → at < length b → (length b - 2) % 12 ≡ 0 → (at - 2) % 12 ≡ 0
    → entries_from b at ((length b - at) / 12) ≡ entry_at b at ∷ entries_from b (at + 12) ((length b - (at + 12)) / 12)
one_left b at low below whole aligned =
    let more : (length b - at) / 12 ≡ suc ((length b - (at + 12)) / 12) = omega (arith, low, below, whole, aligned) in
    ap (entries_from b at) more

pub left_length : (b : List ℕ) (at n : ℕ) → length (entries_from b at n) ≡ n
left_length b at zero = refl
left_length b at (suc n) = ap suc (left_length b (at + 12) n)

pub left_places : (b : List ℕ) (at n k : ℕ) (d : Entry) → k < n → get_or (entries_from b at n) k d ≡ entry_at b (at + 12 * k)
left_places b at zero k d h = elim h [ ]
left_places b at (suc n) zero d h = ap (entry_at b) (omega arith)
left_places b at (suc n) (suc k) d h = left_places b (at + 12) n k d (omega arith) ∙ ap (entry_at b) (omega arith)

-- what `next_entry` says of its answer and of the position, in terms of what is left
pub step_left : (r t : Reader) (e : Option Entry) → e ≡ cond (ltb r.at (length r.bytes.now)) (Some (entry_at r.bytes.now r.at)) None
    → t.at ≡ cond (ltb r.at (length r.bytes.now)) (r.at + 12) r.at → t.bytes.now ≡ r.bytes.now → YieldsFirst entries_left r e t
step_left r t e h m s = by (ltb r.at (length r.bytes.now)) refl h m
  where
    by : (b : Bool) → ltb r.at (length r.bytes.now) ≡ b → e ≡ cond b (Some (entry_at r.bytes.now r.at)) None → t.at ≡ cond b (r.at + 12) r.at → YieldsFirst entries_left r e t
    by true q h m =
        let below : r.at < length r.bytes.now = grind (arith, nat_tests) in
        rw (h, s, m) (one_left r.bytes.now r.at r.begun below r.whole r.aligned)
    by false q h m =
        let past : length r.bytes.now ≤ r.at = grind (arith, nat_tests) in
        rw (h, s, m) (none_left r.bytes.now r.at past, none_left r.bytes.now r.at past)

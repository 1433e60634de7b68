-- Encoding and decoding undo one another.
use Rattle.std.proofs.Common.{◌≡◌, ℕ, zero, suc, ◌+◌, ◌*◌, ◌/◌, ◌%◌, ◌^◌, ◌<◌, Bool, true, false, cond, List, get_or, Some, None, Ok, Err, IfSome, Option, Result, sym, refl, ap, ◌∙◌, add-zero, add-suc, div-one, arith}
use lib.Arith.{digits_div, digits_mod}
use Rattle.std.proofs.lemmas.Nat.{shr-shr}
use Rattle.std.proofs.lemmas.Bool.Decides.{nat_tests}
use Rattle.refusal.specs.declared.file.FileRefusal.{FileRefusal}
use Rattle.std.specs.Option.{option_map}
use Rattle.trace.specs.declared.fields.Fields.{Fields}
use Rattle.calls.specs.declared.Call.{Call}
use Rattle.calls.specs.declared.Call.TheVariants.{Map, Unmap, Protect, Read, Write, Wire, Unwire, Sync}
use Rattle.calls.specs.declared.operation.Values.{Values}
use Rattle.trace.specs.Format.{number, fields_of, content_of, content_at, fields_in, fit, packed, bytes_of, encoded, window, Own}

-- the lowest `j` of the bytes do not matter above them
number_front : (b : List ℕ) (at : ℕ) → ((i : ℕ) → get_or b i 0 < 256) → (k j : ℕ) → number b at (k + j) / 2 ^ (8 * j) ≡ number b at k
number_front b at h k zero = rw add-zero (div-one (number b at k))
number_front b at h k (suc j) =
    let n = number b at (k + j) in
    let e : 8 * suc j ≡ 8 + 8 * j = omega arith in
    rw (add-suc, e, ← shr-shr (n * 256 + get_or b (at + (k + j)) 0) 8 (8 * j), digits_div n (h (at + (k + j)))) (number_front b at h k j)

digit : (b : List ℕ) (at : ℕ) → ((i : ℕ) → get_or b i 0 < 256) → (k j : ℕ) → number b at (suc k + j) / 2 ^ (8 * j) % 256 ≡ get_or b (at + k) 0
digit b at h k j = ap (λ n. n % 256) (number_front b at h (suc k) j) ∙ digits_mod (number b at k) (h (at + k))

-- the number of twelve bytes has these bytes
pub number_bytes : (b : List ℕ) (at : ℕ) → ((i : ℕ) → get_or b i 0 < 256) → bytes_of (number b at 12) ≡ window b at
number_bytes b at h =
    let e0 = digit b at h 0 11 in
    let e1 = digit b at h 1 10 in
    let e2 = digit b at h 2 9 in
    let e3 = digit b at h 3 8 in
    let e4 = digit b at h 4 7 in
    let e5 = digit b at h 5 6 in
    let e6 = digit b at h 6 5 in
    let e7 = digit b at h 7 4 in
    let e8 = digit b at h 8 3 in
    let e9 = digit b at h 9 2 in
    let e10 = digit b at h 10 1 in
    let e11 = digit b at h 11 0 in
    cc

-- the bytes of a number of 96 bits spell it
pub bytes_number : (n : ℕ) → n < 2 ^ 96 → number (bytes_of n) 0 12 ≡ n
bytes_number n h = omega arith

-- a number of 96 bits is its fields side by side
pub packed_fields : (n : ℕ) → n < 2 ^ 96 → packed (fields_of n) ≡ n
packed_fields n h = omega arith

-- a call spells itself
pub content_in : (r : Call) → content_of (fields_in r) ≡ Ok r
content_in (Map s p c o f q) = refl
content_in (Unmap s p) = refl
content_in (Protect s p q) = refl
content_in (Read s p) = refl
content_in (Write s p w) = refl
content_in (Wire s p) = refl
content_in (Unwire s p) = refl
content_in (Sync o) = refl

pub same_fields : (f g : Fields) → f.operation ≡ g.operation → f.values ≡ g.values → f.zero ≡ g.zero → f ≡ g
same_fields f g e0 e1 e2 = λ i. record { operation = e0 i; values = e1 i; zero = e2 i }

same_values : (f g : Values) → f.space ≡ g.space → f.page ≡ g.page → f.count ≡ g.count → f.object ≡ g.object
    → f.offset ≡ g.offset → f.protection ≡ g.protection → f.word ≡ g.word → f ≡ g
same_values f g e1 e2 e3 e4 e5 e6 e8 =
    λ i. record { space = e1 i; page = e2 i; count = e3 i; object = e4 i; offset = e5 i; protection = e6 i; word = e8 i }

-- the fields that spell a call are the call's
pub content_own : (f : Fields) (r : Call) → content_of f ≡ Ok r → fields_in r ≡ f
content_own f r e = grind (arith, nat_tests)

-- each field fits its bits
record Fitting (f : Fields) : Type 0 where
  operation : f.operation < 2 ^ 4
  space : f.values.space < 2 ^ 4
  page : f.values.page < 2 ^ 18
  count : f.values.count < 2 ^ 9
  object : f.values.object < 2 ^ 4
  offset : f.values.offset < 2 ^ 8
  protection : f.values.protection < 2 ^ 2
  zero : f.zero < 2 ^ 15
  word : f.values.word < 2 ^ 32

fitting : (f : Fields) → fit f ≡ true → Fitting f
fitting f h =
    record { operation = grind (arith, nat_tests); space = grind (arith, nat_tests); page = grind (arith, nat_tests); count = grind (arith, nat_tests); object = grind (arith, nat_tests); offset = grind (arith, nat_tests); protection = grind (arith, nat_tests); zero = grind (arith, nat_tests); word = grind (arith, nat_tests) }

-- fields that fit can be read off the number that holds them
fields_packed : (f : Fields) → Fitting f → fields_of (packed f) ≡ f
fields_packed f h =
    same_fields (fields_of (packed f)) f (omega arith)
    (same_values (fields_of (packed f)).values f.values (omega arith) (omega arith) (omega arith) (omega arith) (omega arith) (omega arith) (omega arith))
    (omega arith)

packed_below : (f : Fields) → Fitting f → packed f < 2 ^ 96
packed_below f h = omega arith

-- the fields of a number fit
fit_fields : (n : ℕ) → fit (fields_of n) ≡ true
fit_fields n = grind (arith, nat_tests)

some_if : {X : Type 0} (c : Bool) (x y : X) → cond c (Some x) None ≡ Some y → (c ≡ true) × (x ≡ y)
some_if true x y e = (refl, cc)
some_if false x y e = let z : ◌≡◌ {A = ℕ} 0 1 = cc in absurd (omega arith)

-- the bytes of a record, where its number is known
pub encoded_by : (r : Call) (o : Option ℕ) → o ≡ cond (fit (fields_in r)) (Some (packed (fields_in r))) None → encoded r ≡ option_map bytes_of o
unfolding encoded
encoded_by r o e = by (fit (fields_in r)) (packed (fields_in r)) ∙ ap (option_map bytes_of) (sym e)
  where
    by : (c : Bool) (n : ℕ) → cond c (Some (bytes_of n)) None ≡ option_map bytes_of (cond c (Some n) None)
    by true n = refl
    by false n = refl

-- what is encoded spells the record that it was made from
pub encoded_back : (r : Call) (bytes : List ℕ) → encoded r ≡ Some bytes → content_at bytes 0 ≡ Ok r
unfolding encoded content_at
encoded_back r bytes e =
    let p = some_if (fit (fields_in r)) (bytes_of (packed (fields_in r))) bytes e in
    let h = fitting (fields_in r) p.0 in
    let n = ap (λ x. number x 0 12) (sym p.1) ∙ bytes_number (packed (fields_in r)) (packed_below (fields_in r) h) in
    ap (λ m. content_of (fields_of m)) n ∙ ap content_of (fields_packed (fields_in r) h) ∙ content_in r

pub encoded_back_by : (r : Call) (o : Option (List ℕ)) → o ≡ encoded r → IfSome o (λ bytes. content_at bytes 0 ≡ Ok r)
encoded_back_by r (Some bytes) e = encoded_back r bytes (sym e)
encoded_back_by r None e = tt

-- a record that a number spells is encoded to the number's bytes
own_number : (n : ℕ) (r : Call) → n < 2 ^ 96 → content_of (fields_of n) ≡ Ok r → encoded r ≡ Some (bytes_of n)
unfolding encoded
own_number n r h e =
    ap (λ f. cond (fit f) (Some (bytes_of (packed f))) None) (content_own (fields_of n) r e)
    ∙ ap (λ c. cond c (Some (bytes_of (packed (fields_of n)))) None) (fit_fields n)
    ∙ ap (λ m. Some (bytes_of m)) (packed_fields n h)

-- a record that a file spells is encoded to the bytes that spell it
pub content_at_own : (x : Result Call FileRefusal) (b : List ℕ) (at : ℕ) → ((i : ℕ) → get_or b i 0 < 256) → x ≡ content_at b at → Own x b at
unfolding content_at
content_at_own (Err _) b at h e = tt
content_at_own (Ok r) b at h e =
    own_number (number b at 12) r
    (omega (arith, h (at + 0), h (at + 1), h (at + 2), h (at + 3), h (at + 4), h (at + 5), h (at + 6), h (at + 7), h (at + 8), h (at + 9), h (at + 10), h (at + 11)))
    (sym e)
    ∙ ap Some (number_bytes b at h)

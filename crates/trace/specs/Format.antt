-- The format of a record: twelve bytes as one number, its fields as quotients and remainders by powers of two,
-- and the record that they spell. Assumes nothing of the bytes.
use Rattle.std.specs.Prelude.{◌≡◌, ℕ, zero, suc, ◌+◌, ◌-◌, ◌*◌, ◌/◌, ◌%◌, ◌^◌, Bool, true, cond, not, ◌&&◌, ◌||◌, List, [], ◌∷◌, map, length, Some, None, Ok, Err, Option, Result, ◌==◌, nat_le, nat_lt, slice_index}
use Rattle.std.specs.List.{range_with_len}
use Rattle.refusal.specs.declared.file.FileRefusal.{FileRefusal}
use Rattle.refusal.specs.declared.file.FileRefusal.TheVariants.{Size, Cut, Operation as UnknownOperation, Field}
use Rattle.trace.specs.declared.fields.Fields.{Fields}
use Rattle.trace.specs.declared.record.Entry.{Entry}
use Rattle.calls.specs.declared.Call.{Call}
use Rattle.calls.specs.declared.operation.Operation.{Operation}
use Rattle.calls.specs.declared.operation.Operation.TheVariants.{Map, Unmap, Protect, Read, Write, Wire, Unwire, Sync}
use Rattle.calls.specs.declared.operation.Values.{Values}
use Rattle.calls.specs.Operations.{number_of, operation_numbered, operation_of, call_of, values_in}

-- the number that the `count` bytes from `at` on spell, most significant byte first
abbrev pub number : List ℕ → ℕ → ℕ → ℕ
number bytes at zero = 0
number bytes at (suc k) = number bytes at k * 256 + slice_index bytes (at + k)

-- the fields of a number of 96 bits, most significant first:
-- operation 4, space 4, page 18, count 9, object 4, offset 8, protection 2, zero 15, word 32
abbrev pub fields_of : ℕ → Fields
fields_of n = record {
  operation = n / 2 ^ 92 % 2 ^ 4;
  values = record {
    space = n / 2 ^ 88 % 2 ^ 4;
    page = n / 2 ^ 70 % 2 ^ 18;
    count = n / 2 ^ 61 % 2 ^ 9;
    object = n / 2 ^ 57 % 2 ^ 4;
    offset = n / 2 ^ 49 % 2 ^ 8;
    protection = n / 2 ^ 47 % 2 ^ 2;
    word = n % 2 ^ 32;
  };
  zero = n / 2 ^ 32 % 2 ^ 15;
}

-- the fields that an operation does not use
abbrev pub unused : Operation → Values → List ℕ
unused Map v = v.word ∷ []
unused Unmap v = v.count ∷ v.object ∷ v.offset ∷ v.protection ∷ v.word ∷ []
unused Protect v = v.count ∷ v.object ∷ v.offset ∷ v.word ∷ []
unused Read v = v.count ∷ v.object ∷ v.offset ∷ v.protection ∷ v.word ∷ []
unused Write v = v.count ∷ v.object ∷ v.offset ∷ v.protection ∷ []
unused Wire v = v.count ∷ v.object ∷ v.offset ∷ v.protection ∷ v.word ∷ []
unused Unwire v = v.count ∷ v.object ∷ v.offset ∷ v.protection ∷ v.word ∷ []
unused Sync v = v.space ∷ v.page ∷ v.count ∷ v.offset ∷ v.protection ∷ v.word ∷ []

abbrev pub all_zero : List ℕ → Bool
all_zero [] = true
all_zero (n ∷ ns) = n == 0 && all_zero ns

-- whether the zero field, and each field that the operation does not use, is zero
abbrev pub unused_zero : Operation → Fields → Bool
unused_zero o f = f.zero == 0 && all_zero (unused o f.values)

-- refusal 3 where the operation is 0 or above 8, else 4 where a field that is to be zero is not, else the call
abbrev pub content_by : Option Operation → Fields → Result Call FileRefusal
content_by None f = Err UnknownOperation
content_by (Some o) f = cond (unused_zero o f) (Ok (call_of o f.values)) (Err Field)

abbrev pub content_of : Fields → Result Call FileRefusal
content_of f = content_by (operation_numbered f.operation) f

-- what the twelve bytes from `at` on spell
unfoldable pub content_at : List ℕ → ℕ → Result Call FileRefusal
content_at bytes at = content_of (fields_of (number bytes at 12))

-- the same with the record's number: the first record begins at 2
abbrev pub entry_at : List ℕ → ℕ → Entry
entry_at bytes at = record { number = (at - 2) / 12; content = content_at bytes at }

-- the frame count that a file begins with
abbrev pub frame_count : List ℕ → ℕ
frame_count bytes = number bytes 0 2

-- refusal 1: above 65,534 bytes, or a frame count outside 1 to 256
abbrev pub size_wrong : List ℕ → Bool
size_wrong bytes = nat_lt 65534 (length bytes) || (nat_le 2 (length bytes) && (nat_lt (frame_count bytes) 1 || nat_lt 256 (frame_count bytes)))

-- refusal 2: the file ends inside the frame count or inside a record
abbrev pub broken : List ℕ → Bool
broken bytes = nat_lt (length bytes) 2 || not ((length bytes - 2) % 12 == 0)

-- the frame count, or what turns the whole file away: of the refusals that fit, the one with the smallest number
abbrev pub checked : List ℕ → Result ℕ FileRefusal
checked bytes = cond (size_wrong bytes) (Err Size) (cond (broken bytes) (Err Cut) (Ok (frame_count bytes)))

-- the records of a file, each in its place
abbrev pub record_count : List ℕ → ℕ
record_count bytes = (length bytes - 2) / 12

abbrev pub entries_of : List ℕ → List Entry
entries_of bytes = map (λ k. entry_at bytes (2 + 12 * k)) (range_with_len 0 (record_count bytes))

-- the fields of a call: those that its operation does not use are zero
abbrev pub fields_in : Call → Fields
fields_in call = record { operation = number_of (operation_of call); values = values_in call; zero = 0 }

-- whether each field fits its bits
abbrev pub fit : Fields → Bool
fit f =
    nat_lt f.operation (2 ^ 4) && nat_lt f.values.space (2 ^ 4) && nat_lt f.values.page (2 ^ 18) && nat_lt f.values.count (2 ^ 9) && nat_lt f.values.object (2 ^ 4)
    && nat_lt f.values.offset (2 ^ 8) && nat_lt f.values.protection (2 ^ 2) && nat_lt f.zero (2 ^ 15) && nat_lt f.values.word (2 ^ 32)

-- the fields side by side in one number
abbrev pub packed : Fields → ℕ
packed f =
    f.operation * 2 ^ 92 + f.values.space * 2 ^ 88 + f.values.page * 2 ^ 70 + f.values.count * 2 ^ 61 + f.values.object * 2 ^ 57
    + f.values.offset * 2 ^ 49 + f.values.protection * 2 ^ 47 + f.zero * 2 ^ 32 + f.values.word

-- the twelve bytes of a number, most significant first
abbrev pub bytes_of : ℕ → List ℕ
bytes_of n = map (λ k. n / 2 ^ (88 - 8 * k) % 256) (range_with_len 0 12)

-- the bytes of a record whose fields fit
unfoldable pub encoded : Call → Option (List ℕ)
encoded r = cond (fit (fields_in r)) (Some (bytes_of (packed (fields_in r)))) None

-- the twelve bytes of a file from `at` on
abbrev pub window : List ℕ → ℕ → List ℕ
window bytes at = map (λ k. slice_index bytes (at + k)) (range_with_len 0 12)

-- a record that is handed out from `at` on is encoded to its own twelve bytes
abbrev pub Own : Result Call FileRefusal → List ℕ → ℕ → Type 0
Own (Ok r) bytes at = encoded r ≡ Some (window bytes at)
Own (Err _) bytes at = Unit {0}

-- the two bytes of a frame count from 1 to 256; refusal 1 at any other
abbrev pub encoded_frames : ℕ → Result (List ℕ) FileRefusal
encoded_frames n = cond (nat_le 1 n && nat_le n 256) (Ok (n / 256 ∷ n % 256 ∷ [])) (Err Size)

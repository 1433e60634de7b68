-- The operations: their numbers, their words, and the calls that they make of values. Assumes nothing.
use Rattle.std.specs.Prelude.{◌≡◌, ℕ, List, [], ◌∷◌, Option, Result, codes, find, ◌==◌}
use Rattle.std.specs.Str.{bytes_eq}
use Rattle.std.specs.Option.{ok_or}
use Rattle.calls.specs.declared.Call.{Call}
use Rattle.calls.specs.declared.Call.TheVariants.{Map as MapCall, Unmap as UnmapCall, Protect as ProtectCall, Read as ReadCall, Write as WriteCall, Wire as WireCall, Unwire as UnwireCall, Sync as SyncCall}
use Rattle.calls.specs.declared.operation.Operation.{Operation}
use Rattle.calls.specs.declared.operation.Operation.TheVariants.{Map, Unmap, Protect, Read, Write, Wire, Unwire, Sync}
use Rattle.calls.specs.declared.operation.Values.{Values}
use Rattle.calls.specs.declared.operation.UnknownOperation.{UnknownOperation}

abbrev pub operations : List Operation
operations = Map ∷ Unmap ∷ Protect ∷ Read ∷ Write ∷ Wire ∷ Unwire ∷ Sync ∷ []

-- the number that a trace gives an operation
abbrev pub number_of : Operation → ℕ
number_of Map = 1
number_of Unmap = 2
number_of Protect = 3
number_of Read = 4
number_of Write = 5
number_of Wire = 6
number_of Unwire = 7
number_of Sync = 8

-- the word that a text gives an operation
abbrev pub name_of : Operation → List ℕ
name_of Map = codes "map"
name_of Unmap = codes "unmap"
name_of Protect = codes "protect"
name_of Read = codes "read"
name_of Write = codes "write"
name_of Wire = codes "wire"
name_of Unwire = codes "unwire"
name_of Sync = codes "sync"

abbrev pub operation_numbered : ℕ → Option Operation
operation_numbered n = find (λ o. number_of o == n) operations

abbrev pub operation_named : List ℕ → Option Operation
operation_named word = find (λ o. bytes_eq (name_of o) word) operations

abbrev pub Numbered : ℕ → Result Operation UnknownOperation → Type 0
Numbered n r = r ≡ ok_or (operation_numbered n) (record { 0 = n })

-- the call with the values of the fields that an operation uses
abbrev pub call_of : Operation → Values → Call
call_of Map v = MapCall v.space v.page v.count v.object v.offset v.protection
call_of Unmap v = UnmapCall v.space v.page
call_of Protect v = ProtectCall v.space v.page v.protection
call_of Read v = ReadCall v.space v.page
call_of Write v = WriteCall v.space v.page v.word
call_of Wire v = WireCall v.space v.page
call_of Unwire v = UnwireCall v.space v.page
call_of Sync v = SyncCall v.object

abbrev pub operation_of : Call → Operation
operation_of (MapCall s p c o f r) = Map
operation_of (UnmapCall s p) = Unmap
operation_of (ProtectCall s p r) = Protect
operation_of (ReadCall s p) = Read
operation_of (WriteCall s p w) = Write
operation_of (WireCall s p) = Wire
operation_of (UnwireCall s p) = Unwire
operation_of (SyncCall o) = Sync

abbrev pub no_values : Values
no_values = record { space = 0; page = 0; count = 0; object = 0; offset = 0; protection = 0; word = 0 }

-- the values of a call's fields: those that its operation does not use are zero
abbrev pub values_in : Call → Values
values_in (MapCall s p c o f r) = record { space = s; page = p; count = c; object = o; offset = f; protection = r; word = 0 }
values_in (UnmapCall s p) = record no_values { space = s; page = p }
values_in (ProtectCall s p r) = record no_values { space = s; page = p; protection = r }
values_in (ReadCall s p) = record no_values { space = s; page = p }
values_in (WriteCall s p w) = record no_values { space = s; page = p; word = w }
values_in (WireCall s p) = record no_values { space = s; page = p }
values_in (UnwireCall s p) = record no_values { space = s; page = p }
values_in (SyncCall o) = record no_values { object = o }

-- What a replica of two pmaps holds and keeps, and which of them a call goes to. Assumes nothing.
use Rattle.std.specs.Prelude.{◌≡◌, ℕ, ◌%◌, Some, None, Ok, Err, MatchBool, Option, Result, ◌==◌}
use Rattle.refusal.specs.declared.pmap.PmapRefusal.{PmapRefusal}
use Rattle.pmap.specs.declared.access.Access.{Access}
use Rattle.pmap.specs.declared.access.Access.TheVariants.{Hit, Miss}
use Rattle.pmap.specs.declared.interface.Pmap.{Ghosts}
use Rattle.pmap.specs.Meaning.{View, Mapping}
use Rattle.layers.specs.Twins.{replica}
use Rattle.layers.specs.declared.replica.Replica.{Replica}

-- what it holds
abbrev pub joint : {P Q : Type 0} {p : Ghosts P} {q : Ghosts Q} → Replica P Q p q → View
joint {p = p} {q = q} r = replica (p.view r.first) (q.view r.second)

-- what each half keeps
abbrev pub BothKeep : {P Q : Type 0} {p : Ghosts P} {q : Ghosts Q} → Replica P Q p q → Type 0
BothKeep {p = p} {q = q} r = p.kept r.first × q.kept r.second

-- a call as the replica's own
abbrev pub Jointly : {P Q : Type 0} {p : Ghosts P} {q : Ghosts Q} → Replica P Q p q → Replica P Q p q → (View → View → Type 0) → Type 0
Jointly r r' Call = Call (joint r) (joint r')

-- a call that goes to both halves
abbrev pub ToBoth : {P Q : Type 0} {p : Ghosts P} {q : Ghosts Q} → Replica P Q p q → Replica P Q p q → (View → View → Type 0) → Type 0
ToBoth {p = p} {q = q} r r' Call = Call (p.view r.first) (p.view r'.first) × Call (q.view r.second) (q.view r'.second)

-- a call that goes to both halves if the replica holds the place, and otherwise to neither
abbrev pub ToHolders : {P Q : Type 0} {p : Ghosts P} {q : Ghosts Q} → Replica P Q p q → Replica P Q p q → Option Mapping → (View → View → Type 0) → Type 0
ToHolders r r' None Call = r' ≡ r
ToHolders r r' (Some m) Call = ToBoth r r' Call

-- a call that goes to the first half for an even space and to the second for an odd one
abbrev pub ByParity : {P Q : Type 0} {p : Ghosts P} {q : Ghosts Q} → Replica P Q p q → Replica P Q p q → ℕ → (View → View → Type 0) → Type 0
ByParity {p = p} {q = q} r r' space Call =
    MatchBool (space % 2 == 0)
    (Call (p.view r.first) (p.view r'.first) × (r'.second ≡ r.second))
    (Call (q.view r.second) (q.view r'.second) × (r'.first ≡ r.first))

-- an access: a hit goes to one half, and any other to neither
abbrev pub ToOne : {P Q : Type 0} {p : Ghosts P} {q : Ghosts Q} → Replica P Q p q → Replica P Q p q → ℕ → Result Access PmapRefusal → (View → View → Type 0) → Type 0
ToOne r r' space (Ok (Hit f)) Call = ByParity r r' space Call
ToOne r r' space (Ok Miss) Call = r' ≡ r
ToOne r r' space (Err e) Call = r' ≡ r

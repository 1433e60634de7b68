-- The first element of a list that passes a test. Assumes nothing.
use Rattle.std.specs.Prelude.{ℕ, Bool, cond, List, [], ◌∷◌, Option}
use Rattle.std.specs.List.{find, position, list_any}

-- the element
unfoldable pub first : {A : Type 0} → (A → Bool) → List A → Option A
first = find

-- its position
unfoldable pub place : {A : Type 0} → (A → Bool) → List A → Option ℕ
place = position

-- whether there is one
unfoldable pub any : {A : Type 0} → (A → Bool) → List A → Bool
any = list_any

-- the list without it
unfoldable pub without : {A : Type 0} → (A → Bool) → List A → List A
without test [] = []
without test (x ∷ xs) = cond (test x) xs (x ∷ without test xs)

-- the list with it changed
unfoldable pub changed : {A : Type 0} → (A → Bool) → (A → A) → List A → List A
changed test f [] = []
changed test f (x ∷ xs) = cond (test x) (f x ∷ xs) (x ∷ changed test f xs)

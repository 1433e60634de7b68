-- The pages of an offset layer. Assumes nothing.
-- Page v above is page (v + k) mod 262,144 below. A number that is no page stays as it is, so that the pmap below refuses it.
use Rattle.std.specs.Prelude.{ℕ, ◌+◌, ◌%◌, cond, nat_lt}
use Rattle.pmap.specs.Meaning.{View}

abbrev pub shift : ℕ → ℕ → ℕ
shift k v = cond (nat_lt v 262144) ((v + k) % 262144) v

-- what is held at a page above is what is held at the shifted page below; the modified frames are the same
abbrev pub shifted : ℕ → View → View
shifted k below = record { held = λ s v. below.held s (shift k v); modified = below.modified }

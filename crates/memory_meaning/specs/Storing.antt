-- What a sync does at the page records, one after another. Assumes nothing.
use Rattle.std.specs.Prelude.{◌≡◌, ℕ, zero, suc, ◌/◌, ◌<◌, ◌≤◌, Bool, false, cond, not, ◌&&◌, ◌||◌, List, length, set, Some, None, Option, ◌==◌, slice_index, slice_index_or, slice_set}
use Rattle.pmap.specs.Meaning.{View, unmarked}
use Rattle.pmap.specs.Tally.{tally}
use Rattle.rules.specs.State.{dirty_in}

-- the page record of object page x is of the object, and its frame is modified
abbrev pub due : (ℕ → Bool) → ℕ → ℕ → Option ℕ → Bool
due dirty o x page = x / 256 == o && dirty_in dirty page

abbrev pub word_of : List ℕ → Option ℕ → ℕ
word_of words None = 0
word_of words (Some f) = slice_index words f

abbrev pub unmarked_in : (ℕ → Bool) → Option ℕ → ℕ → Bool
unmarked_in set None = set
unmarked_in set (Some f) = unmarked set f

-- one page record: where its page is due its word is stored, and its frame is modified no more
pub record StoresOne (v w : View) (before after words : List ℕ) (o x : ℕ) (page : Option ℕ) (r : Bool) : Type 0 where
  pub told : r ≡ due v.modified o x page
  pub store : after ≡ cond r (slice_set before x (word_of words page)) before
  pub held : (a b : ℕ) → w.held a b ≡ v.held a b
  pub marks : w.modified ≡ cond r (unmarked_in v.modified page) v.modified

-- frame g holds one of the object's pages below n
abbrev pub is_frame : ℕ → Option ℕ → Bool
is_frame g None = false
is_frame g (Some f) = f == g

unfoldable pub held_below : List (Option ℕ) → ℕ → ℕ → ℕ → Bool
held_below records o g zero = false
held_below records o g (suc n) = (n / 256 == o && is_frame g (slice_index_or records n None)) || held_below records o g n

-- the page records below n: each page that is due has its word stored, and its frame is modified no more
pub record StoresBelow (v w : View) (before after words : List ℕ) (records : List (Option ℕ)) (o n count : ℕ) : Type 0 where
  pub told : count ≡ tally (λ x. due v.modified o x (slice_index_or records x None)) n
  pub long : length after ≡ length before
  pub done : (k : ℕ) → k < n → slice_index after k ≡ cond (due v.modified o k (slice_index_or records k None)) (word_of words (slice_index_or records k None)) (slice_index before k)
  pub rest : (k : ℕ) → n ≤ k → slice_index after k ≡ slice_index before k
  pub held : (a b : ℕ) → w.held a b ≡ v.held a b
  pub marks : (g : ℕ) → w.modified g ≡ (v.modified g && not (held_below records o g n))

-- each frame holds one page at most, and is a frame
pub record OnePageEach (records : List (Option ℕ)) : Type 0 where
  pub one : (x y f : ℕ) → slice_index_or records x None ≡ Some f → slice_index_or records y None ≡ Some f → x ≡ y
  pub fits : (x f : ℕ) → slice_index_or records x None ≡ Some f → f < 256

-- The walk, word by word: where a word points nowhere it ends, else it goes on.
use Rattle.std.proofs.Common.{◌≡◌, ℕ, List, get_or, Some, None}
use Rattle.x86_words.specs.Words.{table_of}
use Rattle.x86_words.specs.Walks.{position, walk}

module _ (words : List ℕ) (v root : ℕ) (at_root : root ≡ position 0 v 134217728) where
  pub walk_no_root : None ≡ table_of (get_or words root 0) → walk words v ≡ None
  unfolding walk
  walk_no_root h = rw (← at_root, ← h)

  module _ (a entry : ℕ) (to_entry : Some a ≡ table_of (get_or words root 0)) (at_entry_lem : entry ≡ position a v 262144) where
    pub walk_no_entry : None ≡ table_of (get_or words entry 0) → walk words v ≡ None
    unfolding walk
    walk_no_entry h = rw (← at_root, ← to_entry, ← at_entry_lem, ← h)

    module _ (b directory : ℕ) (to_directory : Some b ≡ table_of (get_or words entry 0)) (at_directory : directory ≡ position b v 512) where
      pub walk_no_leaf : None ≡ table_of (get_or words directory 0) → walk words v ≡ None
      unfolding walk
      walk_no_leaf h = rw (← at_root, ← to_entry, ← at_entry_lem, ← to_directory, ← at_directory, ← h)

      pub walk_leaf : (t leaf : ℕ) → Some t ≡ table_of (get_or words directory 0) → leaf ≡ position t v 1
          → walk words v ≡ Some (record { root = root; entry = entry; directory = directory; leaf = leaf })
      unfolding walk
      walk_leaf t leaf h e = rw (← at_root, ← to_entry, ← at_entry_lem, ← to_directory, ← at_directory, ← h, ← e)

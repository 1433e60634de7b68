-- Slots that are mapped by a closure which computes a change of each entry, or that a loop writes so. Assumes nothing.
use Rattle.std.proofs.Common.{◌≡◌, ℕ, zero, suc, ◌+◌, ◌<◌, ◌≤◌, ◌++◌, List, map, take, drop, Option, None, length, get_or, set, sym, ◌∙◌, ap, subst, arith}
use Rattle.std.specs.Array.{IsMapOf, MapsFrom}
use Rattle.std.specs.Fn.{Called}
use denote.Param.Members.{Mut}
use Rattle.std.proofs.lemmas.List.{ext_get_or, length-map, get_or-map, get_or_default, length-append, take-append-drop, take_all, drop_all, append-nil, set-get_or}
use Rattle.std.proofs.lemmas.List.Edits.{map_over_more}
use Rattle.minimal.specs.declared.entry.Entry.{Entry}
use Rattle.minimal.specs.Entries.{after, Sound, Placed}
use Rattle.minimal.proofs.Holding.{Tame, after_sound, after_placed}

-- an array's map by a closure that computes a function
module _ {F A B : Type 0} (g : Mut F (A × Unit {0}) B) (h : A → B) (f : F) (computes : (x : A) (y : B) (q : F) → Called g f (x, tt) y q → (y ≡ h x) × (q ≡ f)) (xs : List A) (ys : List B) (d : A) (e : B) where
  at_each : (n i k j : ℕ) → j ≡ i + k → MapsFrom g f xs ys i n → k < n → get_or ys j e ≡ h (get_or xs j d)
  at_each zero i k j is m small = absurd (omega arith)
  at_each (suc n) i zero j is m small =
      let here : j ≡ i = omega arith in
      ap (λ a. get_or ys a e) here ∙ m.4.1 e ∙ (computes m.1 m.2 m.0 m.5).0 ∙ ap h (sym (ap (λ a. get_or xs a d) here ∙ m.3.1 d))
  at_each (suc n) i (suc k) j is m small =
      at_each n (i + 1) k j (omega arith) (subst (λ p. MapsFrom g p xs ys (i + 1) n) (computes m.1 m.2 m.0 m.5).1 m.6) (omega arith)

  pub map_is : (n : ℕ) → IsMapOf g f xs ys n → length xs ≡ n → ys ≡ map h xs
  map_is n m long =
      ext_get_or e ys (map h xs) (m.long ∙ sym long ∙ sym (length-map xs h)) (λ i small. at_each n 0 i i (omega arith) m.each (omega (arith, m.long)) ∙ sym (get_or-map h xs i d e (omega (arith, m.long))))

module _ {F : Type 0} (g : Mut F (Option Entry × Unit {0}) (Option Entry)) (change : Entry → Option Entry) (f : F) (computes : (x y : Option Entry) (q : F) → Called g f (x, tt) y q → (y ≡ after change x) × (q ≡ f)) (xs ys : List (Option Entry)) (sound : Sound xs) (mapped : IsMapOf g f xs ys 9) where
  pub slots_mapped : ys ≡ map (after change) xs
  slots_mapped = map_is g (after change) f computes xs ys None None 9 mapped sound.long

  pub sound_mapped : Tame change → Sound ys
  sound_mapped tame = subst Sound (sym slots_mapped) (after_sound change tame xs sound)

  pub placed_mapped : Tame change → Placed xs → Placed ys
  placed_mapped tame placed = subst Placed (sym slots_mapped) (after_placed change tame xs placed)

-- a loop that writes each slot after its change, once it has written those below an index
module _ (change : Entry → Option Entry) (xs : List (Option Entry)) (sound : Sound xs) (i : ℕ) (ys : List (Option Entry)) (so_far : ys ≡ map (after change) (take i xs) ++ drop i xs) where
  written_long : length ys ≡ 9
  written_long =
      omega (arith, ap length so_far, length-append (map (after change) (take i xs)) (drop i xs), length-map (take i xs) (after change), length-append (take i xs) (drop i xs), ap length (take-append-drop i xs), sound.long)

  pub one_more : (d y : Option Entry) → i < 9 → y ≡ after change (get_or ys i d) → set ys i y ≡ map (after change) (take (i + 1) xs) ++ drop (i + 1) xs
  one_more d y small is =
      let x = get_or ys i d in
      ap (set ys i) is ∙ map_over_more (after change) xs ys i x (omega (arith, sound.long)) so_far (get_or_default ys i d x (omega (arith, written_long)))

  -- the slot at the index stays as it is
  pub one_stays : (zs : List (Option Entry)) → i < 9 → zs ≡ ys → get_or ys i None ≡ after change (get_or ys i None) → zs ≡ map (after change) (take (i + 1) xs) ++ drop (i + 1) xs
  one_stays zs small same stays = same ∙ sym (set-get_or ys i None) ∙ one_more None (get_or ys i None) small stays

  pub all_written : 9 ≤ i → ys ≡ map (after change) xs
  all_written past =
      let long : length xs ≤ i = omega (arith, sound.long) in
      so_far
      ∙ ap (λ zs. map (after change) zs ++ drop i xs) (take_all i xs long)
      ∙ ap (λ zs. map (after change) xs ++ zs) (drop_all i xs long)
      ∙ append-nil (map (after change) xs)

  pub written_sound : Tame change → 9 ≤ i → Sound ys
  written_sound tame past = subst Sound (sym (all_written past)) (after_sound change tame xs sound)

  pub written_placed : Tame change → Placed xs → 9 ≤ i → Placed ys
  written_placed tame placed past = subst Placed (sym (all_written past)) (after_placed change tame xs placed)

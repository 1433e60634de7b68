-- From the stored pages of an object to what a sync serves. Assumes nothing.
use Rattle.std.proofs.Common.{◌≡◌, ℕ, zero, suc, ◌/◌, ◌<◌, true, false, cond, not, ◌&&◌, eqb, ltb, List, get_or, Some, None, Ok, Option, sym, refl, ap, ◌∙◌, subst, ⊎_elim, arith}
use mathlib.Core.Path.{fun_ext}
use Rattle.std.proofs.lemmas.List.FromFn.{fill_by_all}
use Rattle.std.proofs.lemmas.Bool.{cases_eq, cases_Bool, both_ways, and_from, and_left, and_right, or_from, or_left, or_right, eq-eqb, eqb-true, lt-ltb}
use Rattle.pmap.specs.Meaning.{View}
use Rattle.pmap.specs.Tally.{tally}
use Rattle.calls.specs.declared.Call.TheVariants.{Sync}
use Rattle.rules.specs.declared.answer.Answer.TheVariants.{Synced}
use Rattle.rules.specs.State.{State, lie}
use Rattle.rules.specs.Paging.{owner, word_in, stored_word, stored_words, synced_count}
use Rattle.rules.specs.Good.{Good}
use Rattle.rules.proofs.Loads.{owner_low, used_low}
use Rattle.tables.specs.Held.{with_dirty}
use Rattle.memory_meaning.specs.Storing.{due, word_of, StoresBelow, OnePageEach, is_frame, held_below}
use Rattle.memory_meaning.specs.Leaves.{Serves}
use Rattle.memory_meaning.specs.Replies.{with_store}
use Rattle.memory_meaning.proofs.Serving.{accepted, in_range}

pub one_page_each : (s : State) → Good s → OnePageEach s.lies
one_page_each s g = record {
  one = λ x y f e h. sym (g.lies_owned x f e) ∙ g.lies_owned y f h;
  fits = λ x f e. used_low s f g (g.lies_used x f e);
}

-- the same lists under other names
pub stores_moved : (v w : View) (b b' a a' ws ws' : List ℕ) (ls ls' : List (Option ℕ)) (o n count : ℕ) → b ≡ b' → a ≡ a' → ws ≡ ws' → ls ≡ ls' → StoresBelow v w b a ws ls o n count → StoresBelow v w b' a' ws' ls' o n count
stores_moved v w b b' a a' ws ws' ls ls' o n count x y z q below =
    subst (λ l. StoresBelow v w l a' ws' ls' o n count) x
    (subst (λ l. StoresBelow v w b l ws' ls' o n count) y
    (subst (λ l. StoresBelow v w b a l ls' o n count) z
    (subst (λ l. StoresBelow v w b a ws l o n count) q below)))

-- a frame that holds just page y
module _ (records : List (Option ℕ)) (o g y : ℕ) (here : get_or records y None ≡ Some g) (only : (k : ℕ) → get_or records k None ≡ Some g → k ≡ y) where
  frame_at : (page : Option ℕ) → is_frame g page ≡ true → page ≡ Some g
  frame_at None e = absurd (both_ways false refl e)
  frame_at (Some f) e = ap Some (eqb-true f g e)

  held_true : (n : ℕ) → y < n → eqb (y / 256) o ≡ true → held_below records o g n ≡ true
  unfolding held_below
  held_true zero h e = absurd (omega arith)
  held_true (suc n) h e = ⊎_elim
      (λ (q : y ≡ n). or_left _ _ (and_from _ _ (ap (λ z. eqb (z / 256) o) (sym q) ∙ e) (ap (λ z. is_frame g (get_or records z None)) (sym q) ∙ ap (is_frame g) here ∙ eq-eqb g g refl)))
      (λ (q : y ≡ n → ⊥). or_right _ _ (held_true n (omega (arith, q)) e))
      (cases_eq y n)

  held_false : (n : ℕ) → eqb (y / 256) o ≡ false → held_below records o g n ≡ false
  unfolding held_below
  held_false zero e = refl
  held_false (suc n) e = or_from _ _
      (⊎_elim
      (λ (t : is_frame g (get_or records n None) ≡ true). and_left _ _ (ap (λ z. eqb (z / 256) o) (only n (frame_at (get_or records n None) t)) ∙ e))
      (λ (t : is_frame g (get_or records n None) ≡ false). and_right (eqb (n / 256) o) _ t)
      (cases_Bool (is_frame g (get_or records n None))))
      (held_false n e)

  held_is : (n : ℕ) → y < n → held_below records o g n ≡ eqb (y / 256) o
  held_is n h = ⊎_elim
      (λ (e : eqb (y / 256) o ≡ true). held_true n h e ∙ sym e)
      (λ (e : eqb (y / 256) o ≡ false). held_false n e ∙ sym e)
      (cases_Bool (eqb (y / 256) o))

module _ (v w : View) (s : State) (o n : ℕ) (after : List ℕ) (g : Good s) (own : s.dirty ≡ v.modified) (below : StoresBelow v w s.store after s.words s.lies o 2048 n) where
  -- a frame that is modified holds one page, its owner
  marks_synced : w.modified ≡ (λ f. s.dirty f && not (eqb (owner s f / 256) o))
  marks_synced = fun_ext (λ f. below.marks f ∙ ap (λ d. d f && not (held_below s.lies o f 2048)) (sym own) ∙ ⊎_elim
      (λ (e : s.dirty f ≡ true).
      let used = g.dirty_used f e in
      ap (λ z. s.dirty f && not z) (held_is s.lies o f (owner s f) (g.owner_lies f used) (λ k q. sym (g.lies_owned k f q)) 2048 (owner_low s f g used)))
      (λ (e : s.dirty f ≡ false). and_left (s.dirty f) _ e ∙ sym (and_left (s.dirty f) _ e))
      (cases_Bool (s.dirty f)))

  word_same : (page : Option ℕ) → word_of s.words page ≡ word_in s page
  word_same None = refl
  word_same (Some f) = refl

  words_synced : after ≡ stored_words s o
  unfolding stored_word stored_words
  words_synced = fill_by_all (stored_word s o) after 2048 0 (below.long ∙ g.store_long) (λ k h.
      below.done k h
      ∙ ap (λ d. cond (due d o k (lie s k)) (word_of s.words (lie s k)) (get_or s.store k 0)) (sym own)
      ∙ ap (λ z. cond (due s.dirty o k (lie s k)) z (get_or s.store k 0)) (word_same (lie s k)))

  count_synced : n ≡ synced_count s o
  count_synced = below.told ∙ ap (λ d. tally (λ x. due d o x (lie s x)) 2048) (sym own)

  pub sync_served : (t : State) → o < 8 → t ≡ with_store (with_dirty s w.modified) after → Serves v w s t (Sync o) (Ok (Synced n))
  sync_served t low end = subst (λ z. Serves v w s t (Sync o) (Ok (Synced z))) (sym count_synced) (accepted v w s t (Sync o)
      (in_range (ltb o 8) None (lt-ltb o 8 low))
      (end ∙ ap (λ d. with_store (with_dirty s d) after) marks_synced ∙ ap (with_store (with_dirty s (λ f. s.dirty f && not (eqb (owner s f / 256) o)))) words_synced)
      below.held)

-- What an accepted call does to the word and to the modified mark of each object page. Assumes nothing.
use Rattle.std.proofs.Common.{◌≡◌, ℕ, ◌+◌, ◌*◌, ◌/◌, ◌<◌, ◌≤◌, Bool, true, false, not, eqb, ◌⊎◌, List, get_or, Some, None, Ok, Option, sym, refl, ap, ◌∙◌, inl, inr, ⊎_elim, arith}
use Rattle.std.proofs.lemmas.List.{get_or-set_same, get_or-set_other, get_or_past}
use Rattle.std.proofs.lemmas.Bool.{cases_Bool, cases_eq, cases_lt, both_ways, eq-eqb, ne_eqb, or_right, and_right, not_from_true}
use Rattle.calls.specs.declared.Call.{Call}
use Rattle.calls.specs.declared.Call.TheVariants.{Map, Unmap, Protect, Read, Write, Wire, Unwire, Sync}
use Rattle.rules.specs.declared.answer.Evicted.{Evicted}
use Rattle.rules.specs.declared.region.Region.{Region}
use Rattle.rules.specs.State.{State, lie, dirty_in, is_modified, page_in}
use Rattle.rules.specs.Refusals.{cover, call_refusal}
use Rattle.rules.specs.Paging.{owner, resident, evicted_by, written_to, stored_words, synced}
use Rattle.rules.specs.Rules.{page_at, object_page, answer, wired_to, moved, evicted_in}
use Rattle.rules.specs.Good.{Good}
use Rattle.rules.specs.Laws.{IsEvicted}
use Rattle.rules.proofs.Lists.{never}
use Rattle.rules.proofs.Loads.{content, word_of, used_low}
use Rattle.rules.proofs.GoodKept.{Brought, stored_at, stored_past, stored_same}
use Rattle.rules.proofs.Accepted.{Reaches, reached, read_passed, write_passed, wire_passed}

-- a place stands for object page x in the state's regions
abbrev pub StandsIn : List Region → ℕ → ℕ → ℕ → Type 0
StandsIn rs a p x = (r : Region) × (cover rs a p ≡ Some r) × (page_in r p ≡ x)

pub stands_at : (s : State) (a p x : ℕ) → StandsIn s.regions a p x → page_at s a p ≡ x
stands_at s a p x (r, found, page) = ap (λ o. object_page o p) found ∙ page

pub reaches_stands : (s : State) (a p : ℕ) → Reaches s a p → StandsIn s.regions a p (page_at s a p)
reaches_stands s a p r = (r.region, r.found, sym r.page)

-- the call is a write of word w to object page x
pub record Written (s : State) (c : Call) (x w : ℕ) : Type 0 where
  pub space : ℕ
  pub page : ℕ
  pub asked : c ≡ Write space page w
  pub to : StandsIn s.regions space page x

-- the word of page x: written, or left
pub data Word (s t : State) (c : Call) (x : ℕ) : Type 0 where
  put : (w : ℕ) → Written s c x w → content t x ≡ w → Word s t c x
  left : ((w : ℕ) → Written s c x w → ⊥) → content t x ≡ content s x → Word s t c x

-- the mark of page x: set by a write, cleared by an eviction or a sync, or kept
pub data Mark (s t : State) (c : Call) (out : Option Evicted) (x : ℕ) : Type 0 where
  marks : (w : ℕ) → Written s c x w → is_modified t x ≡ true → Mark s t c out x
  cleared : ((w : ℕ) → Written s c x w → ⊥) → IsEvicted x out ⊎ (c ≡ Sync (x / 256)) → is_modified t x ≡ false → Mark s t c out x
  kept : ((w : ℕ) → Written s c x w → ⊥) → (IsEvicted x out → ⊥) → (c ≡ Sync (x / 256) → ⊥) → is_modified t x ≡ is_modified s x → Mark s t c out x

pub record Moves (s t : State) (c : Call) (out : Option Evicted) : Type 0 where
  pub word : (x : ℕ) → Word s t c x
  pub mark : (x : ℕ) → Mark s t c out x

-- what has the same words has the same contents
pub word_of_same : (s t : State) (x : ℕ) (o : Option ℕ) → t.words ≡ s.words → t.store ≡ s.store → word_of t x o ≡ word_of s x o
word_of_same s t x None words store = ap (λ l. get_or l x 0) store
word_of_same s t x (Some f) words store = ap (λ l. get_or l f 0) words

pub content_same : (s t : State) (x : ℕ) → t.lies ≡ s.lies → t.words ≡ s.words → t.store ≡ s.store → content t x ≡ content s x
content_same s t x lies words store = ap (λ l. word_of t x (get_or l x None)) lies ∙ word_of_same s t x (lie s x) words store

modified_same : (s t : State) (x : ℕ) → t.lies ≡ s.lies → t.dirty ≡ s.dirty → is_modified t x ≡ is_modified s x
modified_same s t x lies dirty = ap (λ l. dirty_in t.dirty (get_or l x None)) lies ∙ ap (λ d. dirty_in d (lie s x)) dirty

-- a call that is no write and no sync
abbrev quiet : Call → Bool
quiet (Map a p count object offset q) = true
quiet (Unmap a p) = true
quiet (Protect a p q) = true
quiet (Read a p) = true
quiet (Write a p w) = false
quiet (Wire a p) = true
quiet (Unwire a p) = true
quiet (Sync o) = false

unwritten : (s : State) (c : Call) → quiet c ≡ true → (x w : ℕ) → Written s c x w → ⊥
unwritten s c q x w k = both_ways (quiet c) (ap quiet k.asked) q

unsynced : (c : Call) → quiet c ≡ true → (o : ℕ) → c ≡ Sync o → ⊥
unsynced c q o e = both_ways (quiet c) (ap quiet e) q

evicted_cases : (x : ℕ) (out : Option Evicted) → IsEvicted x out ⊎ (IsEvicted x out → ⊥)
evicted_cases x None = inr (λ e. e)
evicted_cases x (Some e) = cases_eq (256 * e.object + e.index) x

-- a page is brought in by such a call
moves_brought : (s t : State) (c : Call) (y : ℕ) (out : Option Evicted) → quiet c ≡ true → Brought s t y out → Moves s t c out
moves_brought s t c y out q b = record {
  word = λ x. left (unwritten s c q x) (b.words x);
  mark = λ x. ⊎_elim
      (λ (e : IsEvicted x out). cleared (unwritten s c q x) (inl e) (b.goes x e))
      (λ (n : IsEvicted x out → ⊥). kept (unwritten s c q x) n (unsynced c q (x / 256)) (b.stays x n))
      (evicted_cases x out);
}

-- such a call moves nothing but regions or wired places
moves_nothing : (s t : State) (c : Call) → quiet c ≡ true → t.lies ≡ s.lies → t.words ≡ s.words → t.store ≡ s.store → t.dirty ≡ s.dirty → Moves s t c None
moves_nothing s t c q lies words store dirty = record {
  word = λ x. left (unwritten s c q x) (content_same s t x lies words store);
  mark = λ x. kept (unwritten s c q x) (λ e. e) (unsynced c q (x / 256)) (modified_same s t x lies dirty);
}

-- a word is written to the frame of page y
module _ (u : State) (y f w : ℕ) (g : Good u) (lies : lie u y ≡ Some f) where
  other_frame : (x h : ℕ) → (x ≡ y → ⊥) → lie u x ≡ Some h → h ≡ f → ⊥
  other_frame x h n e q = n (sym (g.lies_owned x h e) ∙ ap (owner u) q ∙ g.lies_owned y f lies)

  content_put : content (written_to u w (Some f)) y ≡ w
  content_put =
      ap (word_of (written_to u w (Some f)) y) lies
      ∙ get_or-set_same u.words f w 0 (let h = used_low u f g (g.lies_used y f lies) in let l = g.words_long in omega arith)

  content_left : (x : ℕ) → (x ≡ y → ⊥) → content (written_to u w (Some f)) x ≡ content u x
  content_left x n = by (lie u x) refl
    where
      by : (o : Option ℕ) → lie u x ≡ o → word_of (written_to u w (Some f)) x o ≡ word_of u x o
      by None e = refl
      by (Some h) e = get_or-set_other u.words f h w 0 (other_frame x h n e)

  modified_set : is_modified (written_to u w (Some f)) y ≡ true
  modified_set = ap (dirty_in (written_to u w (Some f)).dirty) lies ∙ or_right (u.dirty f) (eqb f f) (eq-eqb f f refl)

  modified_left : (x : ℕ) → (x ≡ y → ⊥) → is_modified (written_to u w (Some f)) x ≡ is_modified u x
  modified_left x n = by (lie u x) refl
    where
      by : (o : Option ℕ) → lie u x ≡ o → dirty_in (written_to u w (Some f)).dirty o ≡ dirty_in u.dirty o
      by None e = refl
      by (Some h) e = let other = ne_eqb h f (other_frame x h n e) in ⊎_elim
          (λ (d : u.dirty h ≡ true). simp d)
          (λ (d : u.dirty h ≡ false). simp (d, other))
          (cases_Bool (u.dirty h))

moves_written : (s u : State) (a p w f : ℕ) (out : Option Evicted) → Reaches s a p → (b : Brought s u (page_at s a p) out) → lie u (page_at s a p) ≡ Some f → Moves s (written_to u w (Some f)) (Write a p w) out
moves_written s u a p w f out r b lies = record { word = word; mark = mark }
  where
    y : ℕ
    y = page_at s a p

    t : State
    t = written_to u w (Some f)

    here : (x : ℕ) → x ≡ y → Written s (Write a p w) x w
    here x same = record { space = a; page = p; asked = refl; to = (r.region, r.found, sym (same ∙ r.page)) }

    only : (x : ℕ) → (x ≡ y → ⊥) → (v : ℕ) → Written s (Write a p w) x v → ⊥
    only x n v k =
        let asked = k.asked in
        let spaces : a ≡ k.space = cc in
        let pages : p ≡ k.page = cc in
        n (sym (ap (λ i. page_at s i p) spaces ∙ ap (page_at s k.space) pages ∙ stands_at s k.space k.page x k.to))

    no_sync : (o : ℕ) → Write a p w ≡ Sync o → ⊥
    no_sync o e = never (cc)

    word : (x : ℕ) → Word s t (Write a p w) x
    word x = ⊎_elim
        (λ (same : x ≡ y). put w (here x same) (ap (content t) same ∙ content_put u y f w b.good lies))
        (λ (n : x ≡ y → ⊥). left (only x n) (content_left u y f w b.good lies x n ∙ b.words x))
        (cases_eq x y)

    mark : (x : ℕ) → Mark s t (Write a p w) out x
    mark x = ⊎_elim
        (λ (same : x ≡ y). marks w (here x same) (ap (is_modified t) same ∙ modified_set u y f w b.good lies))
        (λ (n : x ≡ y → ⊥). ⊎_elim
        (λ (e : IsEvicted x out). cleared (only x n) (inl e) (modified_left u y f w b.good lies x n ∙ b.goes x e))
        (λ (q : IsEvicted x out → ⊥). kept (only x n) q (no_sync (x / 256)) (modified_left u y f w b.good lies x n ∙ b.stays x q))
        (evicted_cases x out))
        (cases_eq x y)

-- an object is synced

content_synced : (s : State) (o x : ℕ) → Good s → content (synced s o) x ≡ content s x
content_synced s o x g = by (lie s x) refl
  where
    store : lie s x ≡ None → get_or (stored_words s o) x 0 ≡ get_or s.store x 0
    store e = ⊎_elim
        (λ (h : x < 2048). stored_at s o x h ∙ stored_same s o x (ap (dirty_in s.dirty) e))
        (λ (h : 2048 ≤ x). stored_past s o x h ∙ sym (get_or_past s.store x 0 (let l = g.store_long in omega arith)))
        (cases_lt x 2048)

    by : (l : Option ℕ) → lie s x ≡ l → word_of (synced s o) x l ≡ word_of s x l
    by None e = store e
    by (Some f) e = refl

modified_synced : (s : State) (o x : ℕ) → Good s → x / 256 ≡ o → is_modified (synced s o) x ≡ false
modified_synced s o x g q = by (lie s x) refl
  where
    by : (l : Option ℕ) → lie s x ≡ l → dirty_in (synced s o).dirty l ≡ false
    by None e = refl
    by (Some f) e =
        let object : eqb (owner s f / 256) o ≡ true = eq-eqb (owner s f / 256) o (ap (λ z. z / 256) (g.lies_owned x f e) ∙ q) in
        and_right (s.dirty f) (not (eqb (owner s f / 256) o)) (not_from_true (eqb (owner s f / 256) o) object)

modified_unsynced : (s : State) (o x : ℕ) → Good s → (x / 256 ≡ o → ⊥) → is_modified (synced s o) x ≡ is_modified s x
modified_unsynced s o x g n = by (lie s x) refl
  where
    by : (l : Option ℕ) → lie s x ≡ l → dirty_in (synced s o).dirty l ≡ dirty_in s.dirty l
    by None e = refl
    by (Some f) e =
        let object : eqb (owner s f / 256) o ≡ false = ne_eqb (owner s f / 256) o (λ q. n (ap (λ z. z / 256) (sym (g.lies_owned x f e)) ∙ q)) in
        ⊎_elim
        (λ (d : s.dirty f ≡ true). simp (d, object))
        (λ (d : s.dirty f ≡ false). simp d)
        (cases_Bool (s.dirty f))

moves_synced : (s : State) (o : ℕ) → Good s → Moves s (synced s o) (Sync o) None
moves_synced s o g = record {
  word = λ x. left (no_write x) (content_synced s o x g);
  mark = λ x. ⊎_elim
      (λ (q : x / 256 ≡ o). cleared (no_write x) (inr (ap Sync (sym q))) (modified_synced s o x g q))
      (λ (n : x / 256 ≡ o → ⊥). kept (no_write x) (λ e. e) (λ e. n (sym (objects (x / 256) e))) (modified_unsynced s o x g n))
      (cases_eq (x / 256) o);
}
  where
    no_write : (x w : ℕ) → Written s (Sync o) x w → ⊥
    no_write x w k = let asked = k.asked in never (cc)

    objects : (i : ℕ) → Sync o ≡ Sync i → o ≡ i
    objects i e = cc

-- a state with the same words and marks
pub moves_like : (s u t : State) (c : Call) (out : Option Evicted) → Moves s u c out → t.lies ≡ u.lies → t.words ≡ u.words → t.store ≡ u.store → t.dirty ≡ u.dirty → Moves s t c out
moves_like s u t c out m lies words store dirty = record { word = λ x. word x (m.word x); mark = λ x. mark x (m.mark x) }
  where
    same_word : (x : ℕ) → content t x ≡ content u x
    same_word x = content_same u t x lies words store

    same_mark : (x : ℕ) → is_modified t x ≡ is_modified u x
    same_mark x = modified_same u t x lies dirty

    word : (x : ℕ) → Word s u c x → Word s t c x
    word x (put w k e) = put w k (same_word x ∙ e)
    word x (left n e) = left n (same_word x ∙ e)

    mark : (x : ℕ) → Mark s u c out x → Mark s t c out x
    mark x (marks w k e) = marks w k (same_mark x ∙ e)
    mark x (cleared n why e) = cleared n why (same_mark x ∙ e)
    mark x (kept n ne ns e) = kept n ne ns (same_mark x ∙ e)

-- every accepted call
pub moves : (s : State) (c : Call) (hit : Bool) → Good s → call_refusal s c ≡ None → Moves s (moved s c) c (evicted_in (Ok (answer s c hit)))
moves s (Map a p count object offset q) hit g e = moves_nothing s (moved s (Map a p count object offset q)) (Map a p count object offset q) refl refl refl refl refl
moves s (Unmap a p) hit g e = moves_nothing s (moved s (Unmap a p)) (Unmap a p) refl refl refl refl refl
moves s (Protect a p q) hit g e = moves_nothing s (moved s (Protect a p q)) (Protect a p q) refl refl refl refl refl
moves s (Read a p) hit g e =
    let y = page_at s a p in
    moves_brought s (resident s y) (Read a p) y (evicted_by s (lie s y)) refl (reached s a p g (read_passed s a p g e))
moves s (Write a p w) hit g e =
    let y = page_at s a p in
    let r = write_passed s a p w g e in
    let b = reached s a p g r in
    rw b.lies (moves_written s (resident s y) a p w b.frame (evicted_by s (lie s y)) r b b.lies)
moves s (Wire a p) hit g e =
    let y = page_at s a p in
    let u = resident s y in
    let b = reached s a p g (wire_passed s a p g e).0 in
    rw b.lies (moves_like s u (wired_to u a p (Some b.frame)) (Wire a p) (evicted_by s (lie s y))
    (moves_brought s u (Wire a p) y (evicted_by s (lie s y)) refl b)
    refl refl refl refl)
moves s (Unwire a p) hit g e = moves_nothing s (moved s (Unwire a p)) (Unwire a p) refl refl refl refl refl
moves s (Sync o) hit g e = moves_synced s o g

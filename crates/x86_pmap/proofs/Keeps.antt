-- What keeps the facts of a kept board: a change of leaf words, the accessed bit above them, and marks.
use Rattle.std.proofs.Common.{◌≡◌, ℕ, ◌+◌, ◌/◌, ◌<◌, ◌≤◌, Bool, true, ◌⊎◌, List, length, sym, refl, ap, ◌∙◌, subst, inl, inr, ⊎_elim, arith}
use Rattle.std.proofs.lemmas.Bool.{cases_eq, and_parts, and_from, leb-true}
use Rattle.std.proofs.lemmas.List.{get_or-set_same, get_or-set_other, length-set}
use Rattle.pmap.specs.Tally.{tally}
use Rattle.x86_words.specs.Words.{put_on, wired, touched}
use Rattle.x86_words.specs.State.{State, word_at, written, is_leaf}
use Rattle.x86_pmap.specs.Kept.{Kept, Points, Mapped, Owner, wired_leaf}
use Rattle.x86_pmap.proofs.Fields.{points_touched}
use Rattle.x86_pmap.proofs.Counts.{tally_less}

-- the same word, or the same in use with its accessed bit on
abbrev pub Alike : ℕ → ℕ → Type 0
Alike w v = (v ≡ w) ⊎ ((w ≡ 0 → ⊥) × (v ≡ touched w))

module _ (w v : ℕ) (a : Alike w v) where
  pub alike_points : (t : ℕ) → Points w t → Points v t
  alike_points t p = ⊎_elim (λ (e : v ≡ w). rw e p) (λ (e : (w ≡ 0 → ⊥) × (v ≡ touched w)). rw e.1 (points_touched w t p)) a

  pub alike_back : (t : ℕ) → Points v t → Points w t
  unfolding put_on
  alike_back t p = ⊎_elim
      (λ (e : v ≡ w). subst (λ x. Points x t) e p)
      (λ (e : (w ≡ 0 → ⊥) × (v ≡ touched w)). let q : Points (touched w) t = subst (λ x. Points x t) e.1 p in record { is = omega arith })
      a

  pub alike_zero : w ≡ 0 → v ≡ 0
  alike_zero z = ⊎_elim (λ (e : v ≡ w). e ∙ z) (λ (e : (w ≡ 0 → ⊥) × (v ≡ touched w)). absurd (e.0 z)) a

-- the words above the leaves are alike, and each leaf word is zero or in use in a leaf that a directory word points to
pub record Kin (st u : State) : Type 0 where
  pub size : length u.words ≡ 8192
  pub marked : length u.marks ≡ 256
  pub next : u.next ≡ st.next
  pub upper : (k : ℕ) → k < 3072 → Alike (word_at st k) (word_at u k)
  pub lower : (k : ℕ) → 3072 ≤ k → k < 8192 → (word_at u k ≡ 0) ⊎ (Mapped (word_at u k) × Owner st (k / 512))

pub kin_kept : (st u : State) → Kept st → Kin st u → tally (wired_leaf u) 8192 ≤ 8 → Kept u
kin_kept st u K R few = record {
  size = R.size;
  marked = R.marked;
  next_low = rw R.next K.next_low;
  next_high = rw R.next K.next_high;
  root = alike_points _ _ (R.upper 0 (omega arith)) 1 K.root;
  entries = λ s h. alike_points _ _ (R.upper (512 + s) (omega arith)) (2 + s) (K.entries s h);
  blank = λ k p h q. alike_zero _ _ (R.upper k (omega arith)) (K.blank k p h q);
  directories = λ k p h. ⊎_elim
      (λ z. inl (alike_zero _ _ (R.upper k h) z))
      (λ l. inr (record { leaf = l.leaf; low = l.low; high = l.high; points = alike_points _ _ (R.upper k h) l.leaf l.points }))
      (K.directories k p h);
  single = λ j k t a b c d p q. K.single j k t a b c d (alike_back _ _ (R.upper j b) t p) (alike_back _ _ (R.upper k d) t q);
  leaves = λ k p h. ⊎_elim (λ z. inl z) (λ m. inr (m.0, owned m.1)) (R.lower k p h);
  few = few;
}
  where
    owned : {t : ℕ} → Owner st t → Owner u t
    owned {t} o = record { at = o.at; low = o.low; high = o.high; points = alike_points _ _ (R.upper o.at o.high) t o.points }

-- no position becomes wired
pub fewer : (st u : State) → Kept st → ((k : ℕ) → 3072 ≤ k → k < 8192 → wired (word_at u k) ≡ true → wired (word_at st k) ≡ true) → tally (wired_leaf u) 8192 ≤ 8
fewer st u K h =
    let less = tally_less (wired_leaf u) (wired_leaf st) 8192 (λ k l e.
    let parts = and_parts (is_leaf k) _ e in and_from _ _ parts.0 (h k (leb-true 3072 k parts.0) l parts.1)) in
    let few = K.few in
    omega arith

-- marks of the same length
pub kept_marks : (st : State) (ms : List Bool) → length ms ≡ 256 → Kept st → Kept (record { words = st.words; marks = ms; next = st.next })
kept_marks st ms n K = record {
  size = K.size;
  marked = n;
  next_low = K.next_low;
  next_high = K.next_high;
  root = K.root;
  entries = K.entries;
  blank = K.blank;
  directories = K.directories;
  single = K.single;
  leaves = λ k p h. ⊎_elim (λ z. inl z) (λ m. inr (m.0, record { at = m.1.at; low = m.1.low; high = m.1.high; points = m.1.points })) (K.leaves k p h);
  few = K.few;
}

-- one leaf word is written
module _ (st : State) (K : Kept st) (k w : ℕ) (low : 3072 ≤ k) (high : k < 8192) where
  pub written_here : word_at (written st k w) k ≡ w
  written_here = get_or-set_same st.words k w 0 (omega (arith, K.size))

  pub written_there : (j : ℕ) → (j ≡ k → ⊥) → word_at (written st k w) j ≡ word_at st j
  written_there j far = get_or-set_other st.words k j w 0 far

  pub written_kin : (w ≡ 0) ⊎ (Mapped w × Owner st (k / 512)) → Kin st (written st k w)
  written_kin m = record {
    size = length-set st.words k w ∙ K.size;
    marked = K.marked;
    next = refl;
    upper = λ j h. inl (written_there j (omega arith));
    lower = λ j p h. ⊎_elim
        (λ (e : j ≡ k). let here : word_at (written st k w) j ≡ w = ap (word_at (written st k w)) e ∙ written_here in
        ⊎_elim (λ z. inl (here ∙ z)) (λ x. inr (subst Mapped (sym here) x.0, subst (λ i. Owner st (i / 512)) (sym e) x.1)) m)
        (λ (e : j ≡ k → ⊥). ⊎_elim
        (λ z. inl (written_there j e ∙ z))
        (λ x. inr (subst Mapped (sym (written_there j e)) x.0, x.1))
        (K.leaves j p h))
        (cases_eq j k);
  }

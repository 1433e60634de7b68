-- Counting: different numbers below a bound, and how many numbers pass a test. Assumes nothing.
use Rattle.std.proofs.Common.{◌≡◌, ℕ, zero, suc, ◌+◌, ◌<◌, ◌≤◌, Bool, true, false, cond, eqb, sym, refl, ap, ◌∙◌, ⊎_elim, add-one, arith}
use Rattle.std.proofs.lemmas.Bool.{cases_eq, cases_lt, cases_Bool, eq-eqb, ne_eqb, cond-true, cond-false}
use Rattle.pmap.specs.Tally.{tally}

-- m different numbers below n are no more than n
pub pigeonhole : (n m : ℕ) (f : ℕ → ℕ) → ((i : ℕ) → i < m → f i < n) → ((i j : ℕ) → i < m → j < m → f i ≡ f j → i ≡ j) → m ≤ n
pigeonhole n zero f below apart = omega arith
pigeonhole zero (suc m) f below apart = absurd (omega (arith, below 0 (omega arith)))
pigeonhole (suc n) (suc m) f below apart =
    let le = pigeonhole n m g g_below g_apart in omega arith
  where
    g : ℕ → ℕ
    g i = cond (eqb (f i) n) (f m) (f i)

    last : (i : ℕ) → i < m → f i ≡ f m → ⊥
    last i h e = let same = apart i m (omega arith) (omega arith) e in omega arith

    g_top : (i : ℕ) → f i ≡ n → g i ≡ f m
    g_top i e = cond-true _ _ _ (eq-eqb (f i) n e)

    g_low : (i : ℕ) → (f i ≡ n → ⊥) → g i ≡ f i
    g_low i e = cond-false _ _ _ (ne_eqb (f i) n e)

    g_below : (i : ℕ) → i < m → g i < n
    g_below i h = ⊎_elim
        (λ (e : f i ≡ n). let ne : f m ≡ n → ⊥ = (λ q. last i h (e ∙ sym q)) in omega (arith, g_top i e, below m (omega arith)))
        (λ (e : f i ≡ n → ⊥). omega (arith, g_low i e, below i (omega arith)))
        (cases_eq (f i) n)

    g_apart : (i j : ℕ) → i < m → j < m → g i ≡ g j → i ≡ j
    g_apart i j h k e = ⊎_elim
        (λ (p : f i ≡ n). ⊎_elim
        (λ (q : f j ≡ n). apart i j (omega arith) (omega arith) (p ∙ sym q))
        (λ (q : f j ≡ n → ⊥). absurd (last j k (sym (g_low j q) ∙ sym e ∙ g_top i p)))
        (cases_eq (f j) n))
        (λ (p : f i ≡ n → ⊥). ⊎_elim
        (λ (q : f j ≡ n). absurd (last i h (sym (g_low i p) ∙ e ∙ g_top j q)))
        (λ (q : f j ≡ n → ⊥). apart i j (omega arith) (omega arith) (sym (g_low i p) ∙ e ∙ g_low j q))
        (cases_eq (f j) n))
        (cases_eq (f i) n)

module _ (test : ℕ → Bool) where
  pub tally_none : tally test 0 ≡ 0
  unfolding tally
  tally_none = refl

  pub tally_hit : (n : ℕ) → test n ≡ true → tally test (n + 1) ≡ tally test n + 1
  unfolding tally
  tally_hit n e = simp (add-one, e) (omega arith)

  pub tally_miss : (n : ℕ) → test n ≡ false → tally test (n + 1) ≡ tally test n
  unfolding tally
  tally_miss n e = simp (add-one, e) (omega arith)

  -- the count grows with the bound
  pub tally_grows : (m n : ℕ) → m ≤ n → tally test m ≤ tally test n
  unfolding tally
  tally_grows m zero h = let e : m ≡ 0 = omega arith in rw e (omega arith)
  tally_grows m (suc n) h = ⊎_elim
      (λ (lt : m < suc n). let less = tally_grows m n (omega arith) in omega arith)
      (λ (ge : suc n ≤ m). let e : m ≡ suc n = omega arith in rw e (omega arith))
      (cases_lt m (suc n))

  -- a number that passes is counted past itself
  pub tally_past : (k n : ℕ) → k < n → test k ≡ true → tally test k < tally test n
  tally_past k n h e = let more = tally_grows (k + 1) n (omega arith) in omega (arith, tally_hit k e)

  -- m different numbers below n that pass: the count is at least m
  pub tally_least : (n m : ℕ) (f : ℕ → ℕ) → ((i : ℕ) → i < m → (f i < n) × (test (f i) ≡ true)) → ((i j : ℕ) → i < m → j < m → f i ≡ f j → i ≡ j) → m ≤ tally test n
  tally_least n m f passes apart =
      pigeonhole (tally test n) m (λ i. tally test (f i)) (λ i h. tally_past (f i) n (passes i h).0 (passes i h).1) ranks
    where
      ranks : (i j : ℕ) → i < m → j < m → tally test (f i) ≡ tally test (f j) → i ≡ j
      ranks i j h k e = ⊎_elim
          (λ (lt : f i < f j). let less = tally_past (f i) (f j) lt (passes i h).1 in absurd (omega arith))
          (λ (ge : f j ≤ f i). ⊎_elim
          (λ (q : f i ≡ f j). apart i j h k q)
          (λ (q : f i ≡ f j → ⊥). let less = tally_past (f j) (f i) (omega arith) (passes j k).1 in absurd (omega arith))
          (cases_eq (f i) (f j)))
          (cases_lt (f i) (f j))

-- m different numbers below n that pass
pub record Picked (test : ℕ → Bool) (n m : ℕ) : Type 0 where
  pub pick : ℕ → ℕ
  pub below : (i : ℕ) → i < m → pick i < n
  pub passes : (i : ℕ) → i < m → test (pick i) ≡ true
  pub apart : (i j : ℕ) → i < m → j < m → pick i ≡ pick j → i ≡ j

-- a count of m has m different numbers that pass
pub tally_picks : (test : ℕ → Bool) (n m : ℕ) → m ≤ tally test n → Picked test n m
unfolding tally
tally_picks test n zero h = record { pick = λ i. i; below = λ i q. absurd (omega arith); passes = λ i q. absurd (omega arith); apart = λ i j q. absurd (omega arith) }
tally_picks test zero (suc m) h = absurd (omega arith)
tally_picks test (suc n) (suc m) h = ⊎_elim
    (λ (e : test n ≡ true). with_top e (tally_picks test n m (let t = simp e at h in omega arith)))
    (λ (e : test n ≡ false). let p = tally_picks test n (suc m) (let t = simp e at h in omega arith) in
    record { pick = p.pick; below = λ i q. (let b = p.below i q in omega arith); passes = p.passes; apart = p.apart })
    (cases_Bool (test n))
  where
    with_top : test n ≡ true → Picked test n m → Picked test (suc n) (suc m)
    with_top e p = record {
      pick = pick;
      below = λ i q. ⊎_elim
          (λ (t : i ≡ m). (let w = top i t in omega arith))
          (λ (t : i ≡ m → ⊥). (let w = low i t in let b = p.below i (omega arith) in omega arith))
          (cases_eq i m);
      passes = λ i q. ⊎_elim
          (λ (t : i ≡ m). ap test (top i t) ∙ e)
          (λ (t : i ≡ m → ⊥). ap test (low i t) ∙ p.passes i (omega arith))
          (cases_eq i m);
      apart = λ i j q r same. ⊎_elim
          (λ (t : i ≡ m). ⊎_elim
          (λ (u : j ≡ m). t ∙ sym u)
          (λ (u : j ≡ m → ⊥). (let w = top i t in let x = low j u in let b = p.below j (omega arith) in absurd (omega arith)))
          (cases_eq j m))
          (λ (t : i ≡ m → ⊥). ⊎_elim
          (λ (u : j ≡ m). (let w = low i t in let x = top j u in let b = p.below i (omega arith) in absurd (omega arith)))
          (λ (u : j ≡ m → ⊥). p.apart i j (omega arith) (omega arith) (sym (low i t) ∙ same ∙ low j u))
          (cases_eq j m))
          (cases_eq i m);
    }
      where
        pick : ℕ → ℕ
        pick i = cond (eqb i m) n (p.pick i)

        top : (i : ℕ) → i ≡ m → pick i ≡ n
        top i t = cond-true _ _ _ (eq-eqb i m t)

        low : (i : ℕ) → (i ≡ m → ⊥) → pick i ≡ p.pick i
        low i t = cond-false _ _ _ (ne_eqb i m t)

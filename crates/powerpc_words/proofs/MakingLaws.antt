-- The starting state.
use Rattle.std.proofs.Common.{◌≡◌, ℕ, ◌+◌, ◌*◌, ◌<◌, ◌≤◌, Bool, false, List, get_or, replicate, ap, ◌∙◌, ⊎_elim, arith}
use Rattle.std.proofs.lemmas.Bool.{cases_lt}
use Rattle.std.proofs.lemmas.List.{get_or-replicate, length-replicate, get_or_past}
use Rattle.powerpc_words.specs.Framed.{Framed}
use Rattle.powerpc_words.specs.State.{start}

pub get_d_same : {X : Type 0} (n k : ℕ) (x : X) → get_or (replicate n x) k x ≡ x
get_d_same n k x = ⊎_elim
    (λ (b : k < n). get_or-replicate n k x x b)
    (λ (b : n ≤ k). get_or_past (replicate n x) k x (simp length-replicate b))
    (cases_lt k n)

pub framed_zeros : (n : ℕ) (ws : List ℕ) → ws ≡ replicate n 0 → Framed ws
framed_zeros n ws e k =
    let zeros = get_d_same {X = ℕ} n (2 * k + 1) 0 in
    omega (arith, ap (λ l. get_or l (2 * k + 1) 0) e, zeros)

pub start_is : (ws : List ℕ) (ms ds : List Bool) (n m d : ℕ) → n ≡ 16384 → m ≡ 256 → d ≡ 8192 → ws ≡ replicate n 0 → ms ≡ replicate m false → ds ≡ replicate d false →
    record { words = ws; marks = ms; wired = ds; next = 0 } ≡ start
unfolding start
start_is ws ms ds n m d en em ed ew es ep =
    let a = ew ∙ ap (λ l. replicate l 0) en in
    let b = es ∙ ap (λ l. replicate l false) em in
    let c = ep ∙ ap (λ l. replicate l false) ed in
    ap (λ l. record { words = l; marks = ms; wired = ds; next = 0 }) a
    ∙ ap (λ l. record { words = replicate 16384 0; marks = l; wired = ds; next = 0 }) b
    ∙ ap (λ l. record { words = replicate 16384 0; marks = replicate 256 false; wired = l; next = 0 }) c

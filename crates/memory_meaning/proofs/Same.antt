-- A pmap that a call left as it was. Assumes nothing.
use Rattle.std.proofs.Common.{◌≡◌, ℕ, Bool, true, false, not, Some, None, Ok, Err, Result, sym, refl, ap, ◌∙◌, subst, MatchResult}
use mathlib.Core.Path.{fun_ext}
use Rattle.std.proofs.lemmas.Bool.{cond-false, ne_eqb}
use Rattle.refusal.specs.declared.memory.MemoryRefusal.{MemoryRefusal}
use Rattle.pmap.specs.Meaning.{View, Same}
use Rattle.pmap.specs.Ranges.{fits_place}
use Rattle.rules.specs.declared.counts.Counts.{Counts}
use Rattle.rules.specs.declared.region.Region.{Region}
use Rattle.rules.specs.State.{State, lie, page_in}
use Rattle.rules.specs.Refusals.{cover, wants_frame, read_refusal, write_refusal}
use Rattle.tables.specs.declared.table.Tables.{Tables}
use Rattle.memory_meaning.specs.declared.outcome.Reached.{Reached}
use Rattle.memory_meaning.specs.Ready.{memory_state, Ready, NoRoom}
use Rattle.memory_meaning.specs.Reaching.{Reaches, Unmoved, access_refusal}
use Rattle.memory_meaning.proofs.Reached.{page_at_is}

-- it shows the same view
pub same_view : (v w : View) → Same v w → v ≡ w
same_view v w same = λ i. record { held = sym held i; modified = sym same.marks i }
  where
    held : w.held ≡ v.held
    held = fun_ext λ a. fun_ext λ b. same.held a b

pub ready_same : (v w : View) (t : Tables) (n : Counts) → Same v w → Ready v (memory_state v t n) → Ready w (memory_state w t n)
ready_same v w t n same ready = subst (λ z. Ready z (memory_state z t n)) (same_view v w same) ready

-- the refusals of an access to a covered place that its protection allows
pub access_refusal_is : (s : State) (a p : ℕ) (write : Bool) (r : Region) → fits_place a p ≡ true → cover s.regions a p ≡ Some r → (write ≡ true → r.protection ≡ 1 → ⊥) → access_refusal s a p write ≡ wants_frame s (lie s (page_in r p))
access_refusal_is s a p true r fits cov right =
    cond-false _ _ _ (ap not fits) ∙ ap (write_refusal s p) cov ∙ cond-false _ _ _ (ne_eqb _ _ (right refl))
access_refusal_is s a p false r fits cov right = cond-false _ _ _ (ap not fits) ∙ ap (read_refusal s p) cov

-- what a fault after a miss comes to
pub after_miss : (v w x : View) (t : Tables) (n : Counts) (u : State) (a p : ℕ) (write : Bool) (r : Region) (q : Result Reached MemoryRefusal) → Same v w → fits_place a p ≡ true → cover (memory_state v t n).regions a p ≡ Some r → (write ≡ true → r.protection ≡ 1 → ⊥)
    → MatchResult q (λ z. Reaches w x (memory_state w t n) u a p write z.frame z.report) (λ e. NoRoom w x (memory_state w t n) u (page_in r p) e)
    → MatchResult q (λ z. (access_refusal (memory_state v t n) a p write ≡ None) × Reaches v x (memory_state v t n) u a p write z.frame z.report) (λ e. (access_refusal (memory_state v t n) a p write ≡ Some e) × Unmoved v x (memory_state v t n) u)
after_miss v w x t n u a p write r (Ok z) same fits cov right h =
    let s = memory_state v t n in
    let k = subst (λ y. Reaches y x (memory_state y t n) u a p write z.frame z.report) (sym (same_view v w same)) h in
    (access_refusal_is s a p write r fits cov right ∙ ap (λ y. wants_frame s (lie s y)) (sym (page_at_is s a p r cov)) ∙ k.room, k)
after_miss v w x t n u a p write r (Err e) same fits cov right h =
    let s = memory_state v t n in
    let k = subst (λ y. NoRoom y x (memory_state y t n) u (page_in r p) e) (sym (same_view v w same)) h in
    (access_refusal_is s a p write r fits cov right ∙ k.told, record { state = k.state; held = k.held })

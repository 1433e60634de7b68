-- A served call leaves what a memory keeps, counted or not. Assumes nothing.
--
-- The memory is opened as its parts, `m`, which are what a clause sees, `old`; those after the call are `w`, seen as `new`.
use Rattle.std.proofs.Common.{◌≡◌, ◌<◌, ◌≤◌, sym, ap, ◌∙◌, subst}
use Rattle.pmap.specs.Meaning.{View}
use Rattle.calls.specs.declared.Call.{Call}
use Rattle.rules.specs.declared.counts.Counts.{Counts}
use Rattle.rules.specs.Rules.{Reply, added, after, stored_in, with_counts}
use Rattle.rules.specs.History.{May}
use Rattle.memory_meaning.specs.Ready.{Ready, hits}
use Rattle.memory_meaning.proofs.AccessReady.{may_say}
use Rattle.memory_meaning.proofs.Counted.{ready_served, few_stored, called_ready, called_state}
use Rattle.memory.specs.declared.parts.Parts.{Parts}
use Rattle.memory.specs.Whole.{seen, state, Serving, Whole}

pub whole_served : {P : Type 0} (view : P → View) (keeps : P → Type 0) (m old w : Parts P) (c : Call) (r : Reply) → Whole view keeps m → m ≡ old → Serving view old w c r → keeps w.pmap → Whole view keeps w
whole_served view keeps m old w c r whole is served kept = record {
  kept = kept;
  ready = ready_served (seen view old) (seen view w) (state view old) (state view w) c r (subst (Whole view keeps) is whole).ready served;
}

-- what the pmap says of a call is what it may say
pub may_called : {P : Type 0} (view : P → View) (keeps : P → Type 0) (m old : Parts P) (c : Call) → Whole view keeps m → m ≡ old → May (state view old) c (hits (seen view old) c)
may_called view keeps m old c whole is = may_say (seen view old) (state view old) c (subst (Whole view keeps) is whole).ready

module _ {P : Type 0} (view : P → View) (keeps : P → Type 0) (m old new : Parts P) (c : Call) (r : Reply) (whole : Whole view keeps m) (is : m ≡ old) (less : m.counts.calls < 1000000) (served : Serving view old new c r) where
  from : Serving view m new c r
  from = subst (λ z. Serving view z new c r) (sym is) served

  pub few_called : stored_in r ≤ 2048
  few_called = few_stored (seen view m) (seen view new) (state view m) (state view new) c r whole.ready less from

  module _ (w : Parts P) (out : w ≡ new) (n : Counts) (counted : n ≡ added m.counts r) where
    to : Serving view m w c r
    to = subst (λ z. Serving view m z c r) (sym out) from

    pub whole_called : keeps w.pmap → Whole view keeps (record { pmap = w.pmap; tables = w.tables; counts = n })
    whole_called kept = record {
      kept = kept;
      ready = subst (Ready (seen view w)) (sym (ap (with_counts (state view w)) counted)) (called_ready (seen view m) (seen view w) (state view m) (state view w) c r whole.ready less to);
    }

    pub state_called : with_counts (state view w) n ≡ after (state view old) c (hits (seen view old) c)
    state_called =
        ap (with_counts (state view w)) counted ∙ called_state (seen view m) (seen view w) (state view m) (state view w) c r whole.ready less to
        ∙ ap (λ z. after (state view z) c (hits (seen view z) c)) is

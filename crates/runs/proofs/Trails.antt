-- One call more of a run. Assumes nothing.
use Rattle.std.proofs.Common.{◌≡◌, ℕ, Bool, true, leb, List, [], ◌∷◌, ◌++◌, reverse, sym, refl, ap, ◌∙◌, subst}
use mathlib.Core.List.{reverse-append}
use Rattle.std.proofs.lemmas.Bool.{and_parts, leb-true}
use Rattle.calls.specs.declared.Call.{Call}
use Rattle.rules.specs.State.{State, fresh}
use Rattle.rules.specs.Rules.{Reply, reply, after}
use Rattle.rules.specs.History.{Moment, May, Passed, begun, called, shown}
use Rattle.rules.proofs.Whole.{lawful}
use Rattle.rules.proofs.Agreement.{agreement}
use Rattle.memory.specs.Making.{fits_frames}
use Rattle.runs.specs.RunLaw.{Trail, RunLaw}

pub trail_none : (n : ℕ) (s : State) → s ≡ fresh n → Trail n [] [] s
trail_none n s is = record { history = []; passed = subst (Passed n []) (sym is) begun; asked = refl; told = refl }

pub trail_more : (n : ℕ) (cs : List Call) (rs : List Reply) (s t : State) (c : Call) (r : Reply) (hit : Bool) → Trail n cs rs s → May s c hit → r ≡ reply s c hit → t ≡ after s c hit → Trail n (cs ++ (c ∷ [])) (rs ++ (r ∷ [])) t
trail_more n cs rs s t c r hit trail may answer state = record {
  history = m ∷ trail.history;
  passed = subst (Passed n (m ∷ trail.history)) (sym state) (called trail.passed c hit may);
  asked = ap (λ z. c ∷ z) trail.asked ∙ sym (reverse-append cs (c ∷ []));
  told = ap (λ z. reply s c hit ∷ z) trail.told ∙ ap (λ z. z ∷ reverse rs) (sym answer) ∙ sym (reverse-append rs (r ∷ []));
}
  where
    m : Moment
    m = record { call = c; reply = reply s c hit; after = shown (after s c hit) }

pub run_law : (n : ℕ) (cs : List Call) (rs : List Reply) (s : State) → fits_frames n ≡ true → Trail n cs rs s → RunLaw n cs rs s
run_law n cs rs s fits trail = record {
  trail = trail;
  lawful = lawful n (leb-true n 256 (and_parts (leb 1 n) (leb n 256) fits).1) trail.passed;
  agrees = λ other end passed same. agreement n trail.passed passed (sym same);
}

-- The hardware's lookup on the words and the view agree.
use Rattle.std.proofs.lemmas.Bool.Decides.{nat_tests}
use Rattle.std.proofs.Common.{arith, ◌≡◌, ℕ, Some, None, Ok, Err, Option, Result, sym, refl, ap, ◌∙◌}
use Rattle.std.proofs.lemmas.Bool.{cond-true}
use Rattle.refusal.specs.declared.pmap.PmapRefusal.{PmapRefusal}
use Rattle.pmap.specs.Meaning.{Mapping}
use Rattle.pmap.specs.Ranges.{fits_place}
use Rattle.powerpc_words.specs.State.{State}
use Rattle.powerpc_words.specs.Search.{lookup}
use Rattle.powerpc_words.specs.Answers.{holds, mapping_at, or_range, find_answer}
use Rattle.powerpc_pmap.specs.View.{view_of}
use Rattle.powerpc_pmap.specs.Hardware.{entry_of, translated, right_of, Translates}

parts : (st : State) (o : Option ℕ) → entry_of st.words o ≡ right_of (mapping_at st o)
parts st None = refl
parts st (Some k) = refl

pub translated_holds : (st : State) (s p : ℕ) → translated st.words s p ≡ right_of (holds st s p)
unfolding translated holds
translated_holds st s p = parts st (lookup st.words s p)

pub translates : (st : State) → Translates st.words (view_of st)
unfolding view_of
translates st s p t = translated_holds st s p ∙ sym (ap right_of (cond-true _ _ _ t))

-- the answer of `translate` by the answer of `find`
abbrev pub right_answer : Result (Option Mapping) PmapRefusal → Result (Option (ℕ × ℕ)) PmapRefusal
right_answer (Ok o) = Ok (right_of o)
right_answer (Err e) = Err e

pub right_answer_is : (st : State) (s p : ℕ) → right_answer (find_answer st s p) ≡ or_range (fits_place s p) (translated st.words s p)
right_answer_is st s p = grind (arith, nat_tests, translated_holds)

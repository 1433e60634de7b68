-- One line of a text, and one record of it.
use Rattle.std.proofs.Common.{◌≡◌, ℕ, ◌+◌, true, false, cond, List, [], ◌∷◌, ◌++◌, length, Ok, Err, Result, sym, refl, ap, ◌∙◌}
use Rattle.calls.specs.declared.Call.{Call}
use Rattle.pieces.specs.declared.cut.Cut.TheVariants.{Lines}
use Rattle.pieces.specs.Cuts.{pieces_at}
use Rattle.script_line.specs.declared.fault.Fault.{Fault}
use Rattle.script_line.specs.Form.{silent}
use Rattle.script.specs.Whole.{words_of, spoken, record_at, records_in}

-- a line that says nothing is passed over
pub line_skip : (text old line : List ℕ) (n at next : ℕ) (total : List (ℕ × List ℕ)) → old ≡ text → spoken n (pieces_at Lines text at) ≡ total
    → pieces_at Lines old at ≡ line ∷ pieces_at Lines old next → true ≡ silent (words_of line) → spoken (n + 1) (pieces_at Lines text next) ≡ total
unfolding spoken
line_skip text old line n at next total e inv split is =
    sym (ap (spoken n) (rw e at split) ∙ ap (λ b. cond b (spoken (n + 1) (pieces_at Lines text next)) ((n, line) ∷ spoken (n + 1) (pieces_at Lines text next))) (sym is)) ∙ inv

pub line_keep : (text old line : List ℕ) (n at next : ℕ) (total : List (ℕ × List ℕ)) → old ≡ text → spoken n (pieces_at Lines text at) ≡ total
    → pieces_at Lines old at ≡ line ∷ pieces_at Lines old next → false ≡ silent (words_of line) → total ≡ (n, line) ∷ spoken (n + 1) (pieces_at Lines text next)
unfolding spoken
line_keep text old line n at next total e inv split is =
    sym inv ∙ ap (spoken n) (rw e at split) ∙ ap (λ b. cond b (spoken (n + 1) (pieces_at Lines text next)) ((n, line) ∷ spoken (n + 1) (pieces_at Lines text next))) (sym is)

pub line_stop : (text old : List ℕ) (n at : ℕ) (total : List (ℕ × List ℕ)) → old ≡ text → spoken n (pieces_at Lines text at) ≡ total → pieces_at Lines old at ≡ [] → total ≡ []
unfolding spoken
line_stop text old n at total e inv split = sym inv ∙ ap (spoken n) (rw e at split)

-- a line that is a record puts its call behind the others
step : (cs : List Call) (n : ℕ) (line : List ℕ) (rest : List (ℕ × List ℕ))
    → records_in cs ((n, line) ∷ rest) ≡ elim (record_at (length cs) n line) [ Ok call ↦ records_in (cs ++ (call ∷ [])) rest | Err e ↦ Err e ]
unfolding records_in
step cs n line rest = refl

pub record_more : (cs new : List Call) (before n : ℕ) (line : List ℕ) (call : Call) (ls rest : List (ℕ × List ℕ)) (total : Result (List Call) Fault) → before ≡ length cs
    → ls ≡ (n, line) ∷ rest → Ok call ≡ record_at before n line → new ≡ cs ++ (call ∷ []) → records_in cs ls ≡ total → records_in new rest ≡ total
record_more cs new before n line call ls rest total len split is put inv =
    let found : record_at (length cs) n line ≡ Ok call = ap (λ k. record_at k n line) (sym len) ∙ sym is in
    ap (λ x. records_in x rest) put ∙ sym (ap (records_in cs) split ∙ step cs n line rest ∙ rw found) ∙ inv

pub record_fails : (cs : List Call) (before n : ℕ) (line : List ℕ) (e : Fault) (ls rest : List (ℕ × List ℕ)) (total : Result (List Call) Fault) → before ≡ length cs
    → ls ≡ (n, line) ∷ rest → Err e ≡ record_at before n line → records_in cs ls ≡ total → total ≡ Err e
record_fails cs before n line e ls rest total len split is inv =
    let found : record_at (length cs) n line ≡ Err e = ap (λ k. record_at k n line) (sym len) ∙ sym is in
    sym inv ∙ ap (records_in cs) split ∙ step cs n line rest ∙ rw found

pub records_all : (cs : List Call) (ls : List (ℕ × List ℕ)) (total : Result (List Call) Fault) → ls ≡ [] → records_in cs ls ≡ total → total ≡ Ok cs
unfolding records_in
records_all cs ls total split inv = sym inv ∙ ap (records_in cs) split

-- An empty piece is passed over; the first other one is the word.
use Rattle.std.proofs.Common.{◌≡◌, ℕ, ◌<◌, List, [], ◌∷◌, length, sym, refl, ap, ◌∙◌, arith}
use Rattle.std.proofs.lemmas.Bool.Decides.{nat_tests}
use Rattle.pieces.specs.declared.cut.Cut.TheVariants.{Words}
use Rattle.pieces.specs.Cuts.{pieces_at, words_at, solid}
use Rattle.pieces.proofs.cut.Pieces.next_word.Goals as goal

solid_skip : (p : List ℕ) (ps : List (List ℕ)) → length p ≡ 0 → solid (p ∷ ps) ≡ solid ps
unfolding solid
solid_skip [] ps h = refl
solid_skip (c ∷ cs) ps h = absurd (omega (arith, h))

solid_keep : (p : List ℕ) (ps : List (List ℕ)) → 0 < length p → solid (p ∷ ps) ≡ p ∷ solid ps
unfolding solid
solid_keep [] ps h = absurd (omega (arith, h))
solid_keep (c ∷ cs) ps h = refl

skip : (text old p : List ℕ) (start at next : ℕ) → old ≡ text → words_at text at ≡ words_at text start → pieces_at Words old at ≡ p ∷ pieces_at Words old next → length p ≡ 0
    → words_at text next ≡ words_at text start
skip text old p start at next e inv split none = sym (ap solid (rw e at split) ∙ solid_skip p (pieces_at Words text next) none) ∙ inv

keep : (text old p : List ℕ) (start at next : ℕ) → old ≡ text → words_at text at ≡ words_at text start → pieces_at Words old at ≡ p ∷ pieces_at Words old next → 0 < length p
    → words_at text start ≡ p ∷ words_at text next
keep text old p start at next e inv split some = sym inv ∙ ap solid (rw e at split) ∙ solid_keep p (pieces_at Words text next) some

stop : (text old : List ℕ) (start at : ℕ) → old ≡ text → words_at text at ≡ words_at text start → pieces_at Words old at ≡ [] → words_at text start ≡ []
unfolding solid
stop text old start at e inv split = sym inv ∙ ap solid (rw e at split)

pub returns-then-not-is_empty : goal.returns-then-not-is_empty
returns-then-not-is_empty c =
    let inv = c.loop-piece.invariant in
    let law = c.in-Some.ensures in
    let some : 0 < length c.in-Some.piece.now = grind (arith, nat_tests, c.if-not-is_empty.ensures) in
    record {
      split = keep c.args.self.now.text.now c.loop-piece.self.text.now c.in-Some.piece.now c.args.self.now.at c.loop-piece.self.at c.next_piece.new.self.at
          inv.0 inv.1 law.split some;
      text = law.text ∙ inv.0;
      some = some;
    }

pub loop-piece-preserved : goal.loop-piece-preserved
loop-piece-preserved c =
    let inv = c.loop-piece.invariant in
    let law = c.in-Some.ensures in
    let none : length c.in-Some.piece.now ≡ 0 = grind (arith, nat_tests, c.if-not-is_empty.ensures) in (
      law.text ∙ inv.0,
      skip c.args.self.now.text.now c.loop-piece.self.text.now c.in-Some.piece.now c.args.self.now.at c.loop-piece.self.at c.next_piece.new.self.at
          inv.0 inv.1 law.split none,
    )

pub returns : goal.returns
returns c =
    let inv = c.loop-piece.invariant in
    let law = c.in_default.ensures in
    record {
      split = stop c.args.self.now.text.now c.loop-piece.self.text.now c.args.self.now.at c.loop-piece.self.at inv.0 inv.1 law.split;
      text = law.text ∙ inv.0;
      some = tt;
    }

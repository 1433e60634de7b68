use Rattle.std.proofs.Common.{◌≡◌, true, false, vec_items, sym, rules, arith, tests}
use Rattle.std.proofs.lemmas.Iterator.{YieldsList-from_map, YieldsList-from_range, cases_from_any}
use Rattle.powerpc_words.specs.Changes.{dirty_at, modified_in}
use Rattle.powerpc_words.proofs.SweepLaws.{any_dirty_from}
use Rattle.powerpc.proofs.board.Board.is_modified.Goals as goal

pub returns-then-is_marked : goal.returns-then-is_marked
unfolding modified_in
returns-then-is_marked c = search rules

pub returns-else-is_marked : goal.returns-else-is_marked
unfolding modified_in
returns-else-is_marked c =
    let words = vec_items c.args.self.now.words in
    let f = c.args.frame.number in
    rw (sym c.if-is_marked.ensures) (any_dirty_from words f 8192 c.any.result
    (cases_from_any _ _ c.any.result (λ k. dirty_at words f k ≡ true) (λ k. dirty_at words f k ≡ false) c.any.ensures.ran
    (YieldsList-from_map _ (λ k. k) (YieldsList-from_range 0 _ 8192 c.map.ensures.source (omega arith)) c.map.ensures.closure (λ x r q k. search rules))
    (λ x q k. search (rules, tests))
    (λ x q k. search (rules, tests))))

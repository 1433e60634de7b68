use Rattle.std.proofs.Common.{◌+◌, ◌*◌, eqb, get_or, sym, ◌∙◌, rules, arith, tests}
use Rattle.std.proofs.lemmas.Iterator.{YieldsList-from_map, YieldsList-from_range}
use Rattle.std.proofs.lemmas.Iterator.Adapters.{option_map_id}
use Rattle.std.proofs.lemmas.Iterator.Search.{find_from_yields_List}
use Rattle.powerpc_words.proofs.SearchLaws.{slot_in_find}
use Rattle.powerpc_words.proofs.search.slot_in.Goals as goal

pub returns : goal.returns
returns c =
    sym (option_map_id c.find.result)
    ∙ find_from_yields_List (λ k. eqb (get_or c.args.words.now (2 * k) 0) c.args.first) _ _ _ c.find.ensures.ran
    (YieldsList-from_map _ (λ t. 8 * c.args.group + t) (YieldsList-from_range 0 _ 8 c.map.ensures.source (omega arith)) c.map.ensures.closure (λ x r q k. search rules))
    (λ x b q k. search (rules, tests))
    ∙ sym (slot_in_find c.args.words.now c.args.group c.args.first)

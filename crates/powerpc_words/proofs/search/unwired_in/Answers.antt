use Rattle.std.proofs.Common.{◌+◌, ◌*◌, ◌%◌, false, not, get_or, sym, ◌∙◌, rules, arith, tests}
use Rattle.std.proofs.lemmas.Iterator.{YieldsList-from_map, YieldsList-from_range}
use Rattle.std.proofs.lemmas.Iterator.Adapters.{option_map_id}
use Rattle.std.proofs.lemmas.Iterator.Search.{find_from_yields_List}
use Rattle.powerpc_words.proofs.SearchLaws.{unwired_in_find}
use Rattle.powerpc_words.proofs.search.unwired_in.Goals as goal

pub returns : goal.returns
returns c =
    sym (option_map_id c.find.result)
    ∙ find_from_yields_List (λ k. not (get_or c.args.wired.now k false)) _ _ _ c.find.ensures.ran
    (YieldsList-from_map _ (λ t. 8 * c.args.group + t % 8) (YieldsList-from_range c.args.next _ 8 c.map.ensures.source (omega arith)) c.map.ensures.closure (λ x r q k. search rules))
    (λ x b q k. search (rules, tests))
    ∙ sym (unwired_in_find c.args.wired.now c.args.group c.args.next)

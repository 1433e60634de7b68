use Rattle.std.proofs.Common.{◌≡◌, Ok, ap, ◌∙◌, rules}
use Rattle.powerpc.specs.Reads.{state}
use Rattle.powerpc_pmap.specs.Hardware.{right_of}
use Rattle.powerpc_pmap.proofs.Translating.{translates, right_answer, right_answer_is}
use Rattle.powerpc_pmap.proofs.hashed.Hashed.translate.Goals as goal

pub returns-in_err-found-clause-agrees : goal.returns-in_err-found-clause-agrees
returns-in_err-found-clause-agrees c = translates (state c.args.self.now.board)

pub returns-clause-answer : goal.returns-clause-answer
returns-clause-answer c =
    let right : c.map.result ≡ right_of c.in_ok-found.found = search rules in
    ap Ok right ∙ ap right_answer c.in_ok-found.ensures ∙ right_answer_is (state c.args.self.now.board) c.args.space c.args.page

pub returns-clause-agrees : goal.returns-clause-agrees
returns-clause-agrees c = translates (state c.args.self.now.board)

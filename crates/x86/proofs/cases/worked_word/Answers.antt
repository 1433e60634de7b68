use Rattle.std.proofs.Common.{◌∙◌}
use Rattle.x86.proofs.Worked.{board_cases}
use Rattle.x86.proofs.cases.worked_word.Goals as goal

pub returns : goal.returns
returns c = record { cases = board_cases; word = c.leaf.ensures ∙ board_cases.4 }

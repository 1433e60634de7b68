use Rattle.std.proofs.Common.{◌≡◌, ◌||◌, false, get_or, rules, sym, ap, ◌∙◌, arith}
use Rattle.x86_words.specs.State.{any_dirty, is_leaf}
use Rattle.x86_words.proofs.Sets.{any_dirty_past}
use Rattle.x86.specs.Reads.{state}
use Rattle.x86.proofs.board.Board.is_modified.Goals as goal

pub returns-else-index : goal.returns-else-index
returns-else-index c =
    let words = (state c.args.self.now).words in
    let f = c.args.wanted.number in
    let off : get_or (state c.args.self.now).marks f false ≡ false = search rules in
    c.holds_dirty.ensures ∙ any_dirty_past words 3072 f 5120 (omega arith) ∙ sym (ap (λ b. b || any_dirty words is_leaf f 8192) off)

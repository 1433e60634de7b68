use Rattle.x86.specs.Reads.{state}
use Rattle.x86_pmap.proofs.Meanings.{clears}
use Rattle.x86_pmap.proofs.meaning.X86.new.Goals as goal

pub returns : goal.returns
returns c =
    let made = c.in_ok-board.ensures in
    let m = clears (state c.in_ok-board.board) made.0 in
    (m.0, m.1, made.1)

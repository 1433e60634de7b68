use Rattle.x86.specs.Reads.{state}
use Rattle.x86_pmap.proofs.Meanings.{clears}
use Rattle.x86_pmap.proofs.meaning.X86Pmap.clear.Goals as goal

pub returns : goal.returns
returns c =
    let m = clears (state c.clear.new.self) c.clear.ensures in
    record { meaning = m.0; kept = m.1 }

use Rattle.std.proofs.Common.{arith}
use Rattle.x86_words.specs.Words.{maps}
use Rattle.x86_words.specs.State.{word_at, mapping}
use Rattle.x86.specs.Reads.{state}
use Rattle.x86_words.proofs.Sweeps.{up_to, emptying_none, emptying_same, emptying_here, emptying_step, emptying_all, up_to_none, up_to_all}
use Rattle.x86_words.proofs.Sets.{mapping_low, mapping_here, mapping_past}
use Rattle.x86.proofs.board.Board.drop_all.Goals as goal

pub loop-at-init : goal.loop-at-init
loop-at-init c =
    let st = state c.args.self.now in
    let gone = mapping st c.args.wanted.number in
    emptying_none st (up_to 3072 gone) (up_to_none gone 3072 (mapping_low st c.args.wanted.number))

pub loop-at-preserved : goal.loop-at-preserved
loop-at-preserved c =
    let st = state c.args.self.now in
    let u = state c.loop-at.self in
    let i = c.loop-at.at in
    let f = c.args.wanted.number in
    let here = emptying_here st u (mapping st f) i c.loop-at.invariant in
    emptying_step st u (state c.drop_at.new.self) (mapping st f) i (maps (word_at u i) f) c.loop-at.invariant (omega arith) (omega arith) (omega arith)
    (mapping_here st f i (word_at u i) (omega arith) here) c.drop_at.ensures

pub returns : goal.returns
returns c =
    let st = state c.args.self.now in
    let u = state c.loop-at.self in
    let gone = mapping st c.args.wanted.number in
    emptying_all st u gone (omega arith) (omega arith)
    (emptying_same st u (up_to c.loop-at.at gone) gone (up_to_all gone c.loop-at.at (λ k h. mapping_past st c.args.wanted.number (omega arith) k (omega arith))) c.loop-at.invariant)

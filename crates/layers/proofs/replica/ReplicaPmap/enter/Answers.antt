use Rattle.layers.proofs.Halves.{enter_joint}
use Rattle.layers.proofs.replica.ReplicaPmap.enter.Goals as goal

pub returns-clause-meaning : goal.returns-clause-meaning
returns-clause-meaning g c =
    let v = g.P.Pmap.view in
    let w = g.Q.Pmap.view in
    let s = c.args.self.now in
    let one = c.in_ok-enter.ensures.meaning in
    enter_joint (v s.first) (v c.enter.new.self) (w s.second) (w c.enter-2.new.self) c.args.space c.args.page c.args.frame c.args.protection c.args.wired s.twins one.0 one.1 c.enter-2.result c.enter-2.ensures.meaning

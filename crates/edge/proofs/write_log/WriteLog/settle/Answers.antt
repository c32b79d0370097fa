use Rattle.edge.proofs.Same.{same_settled}
use Rattle.edge.proofs.write_log.WriteLog.settle.Goals as goal

pub invariant_of-self : goal.invariant_of-self
invariant_of-self c =
    let l = c.self.inside in
    same_settled l.kept.items l.trail.writes c.settle.new.log.items c.then-self-inside.result.writes c.self.invariant c.settle.ensures
    c.then-self-inside.ensures

use Rattle.edge.proofs.Same.{same_cut}
use Rattle.edge.proofs.write_log.WriteLog.lose.Goals as goal

pub invariant_of-self : goal.invariant_of-self
invariant_of-self c =
    let l = c.self.inside in
    same_cut l.kept.items l.trail.writes c.lose.new.log.items c.then-self-inside.result.writes c.self.invariant c.lose.ensures c.then-self-inside.ensures

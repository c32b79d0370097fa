use Rattle.edge.proofs.Same.{same_lost}
use Rattle.edge.proofs.write_log.WriteLog.note_lost.Goals as goal

pub invariant_of-self : goal.invariant_of-self
invariant_of-self c =
    let l = c.self.inside in
    same_lost l.kept.items l.trail.writes c.then-self-inside.result.writes c.args.at c.self.invariant c.then-self-inside.ensures

use Rattle.edge.proofs.Same.{same_noted, same_lost}
use Rattle.edge.proofs.write_log.WriteLog.note.Goals as goal

pub invariant_of-self : goal.invariant_of-self
invariant_of-self c =
    let l = c.self.inside in
    same_noted l.kept.items l.trail.writes c.note.new.log.items c.then-self-inside.result.writes c.args.at c.args.from.now c.self.invariant c.in-Ok.ensures.ok
    c.then-self-inside.ensures

pub invariant_of-self-in-Err : goal.invariant_of-self-in-Err
invariant_of-self-in-Err c =
    let l = c.self.inside in
    rw c.in-Err.ensures.err
    (same_lost l.kept.items l.trail.writes c.then-self-inside-in-Err.result.writes c.args.at c.self.invariant c.then-self-inside-in-Err.ensures)

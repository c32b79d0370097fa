use Rattle.std.proofs.Common.{List, sym, subst}
use Rattle.task_numbers.specs.declared.number.TaskNo.{TaskNo}
use Rattle.message_wait.specs.Rendezvous.{Waits}
use Rattle.task_tree.specs.Tree.{Tree, ended}
use Rattle.task_desk.specs.Desks.{AllLive, AreWaiters}
use Rattle.task_desk.proofs.Living.{live_ended}
use Rattle.task_desk.proofs.Waiting.{ended_wait}
use Rattle.task_desk.proofs.desk.TaskDesk.end.Goals as goal

pub invariant_of-self : goal.invariant_of-self
invariant_of-self c = (
  subst (λ (tree : Tree). AllLive tree c.leave.new.self) (sym c.end.ensures)
      (subst (λ (ready : List TaskNo). AllLive (ended c.args.task c.self.inside.tree) ready) (sym c.leave.ensures)
      (live_ended c.args.task c.self.inside.tree c.self.inside.ready c.self.invariant.0)),
  subst (λ (tree : Tree). AreWaiters tree c.leave-2.new.self) (sym c.end.ensures)
      (subst (λ (waits : Waits). AreWaiters (ended c.args.task c.self.inside.tree) waits) (sym c.leave-2.ensures)
      (ended_wait c.self.inside.tree c.self.inside.waits c.self.invariant.1 c.args.task)),
)

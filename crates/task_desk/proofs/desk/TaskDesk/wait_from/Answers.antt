use Rattle.std.proofs.Common.{◌≡◌, ◌+◌, ◌<◌, true, false, Some, length, sym, subst}
use Rattle.task_numbers.specs.declared.limits.TheConstants.{TASKS}
use Rattle.task_tree.specs.Tree.{lives}
use Rattle.message_wait.specs.Rendezvous.{Waits, is_waiting}
use Rattle.task_desk.specs.Desks.{Desk, AreWaiters}
use Rattle.task_desk.proofs.Waiting.{wait_room, entered_wait}
use Rattle.task_desk.proofs.desk.TaskDesk.wait_from.Goals as goal

pub wait_from-requires-clause-free : goal.wait_from-requires-clause-free
wait_from-requires-clause-free c = subst (λ (d : Desk). is_waiting c.args.task d.waits ≡ false) (sym c.self.view_is) c.requires.free

pub wait_from-requires-clause-room : goal.wait_from-requires-clause-room
wait_from-requires-clause-room c =
    subst (λ (d : Desk). length d.waits.callers + length d.waits.receivers < TASKS) (sym c.self.view_is)
    (wait_room c.args.self.now.tree c.args.self.now.waits c.law.ensures.waits c.args.task c.requires.free c.law.ensures.tree c.requires.live)

pub invariant_of-self : goal.invariant_of-self
invariant_of-self c = (
  c.self.invariant.0,
  subst (λ (waits : Waits). AreWaiters c.self.inside.tree waits) (sym c.wait_from.ensures)
      (entered_wait c.self.inside.tree c.self.inside.waits c.self.invariant.1 (record { task = c.args.task; of = Some c.args.of })
      (subst (λ (d : Desk). lives c.args.task d.tree ≡ true) (sym c.self.view_is) c.requires.live)
      (subst (λ (d : Desk). is_waiting c.args.task d.waits ≡ false) (sym c.self.view_is) c.requires.free)),
)

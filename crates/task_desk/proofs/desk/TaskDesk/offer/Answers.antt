use Rattle.std.proofs.Common.{◌≡◌, ◌+◌, ◌<◌, true, false, length, sym, subst, to_z, of_z, w16}
use Rattle.task_numbers.specs.declared.limits.TheConstants.{TASKS}
use Rattle.task_tree.specs.Tree.{lives}
use Rattle.message_wait.specs.Rendezvous.{Waits, is_waiting}
use Rattle.task_desk.specs.Desks.{Desk, AreWaiters}
use Rattle.task_desk.proofs.Waiting.{wait_room, offered_wait}
use Rattle.task_desk.proofs.desk.TaskDesk.offer.Goals as goal

pub offer-requires-clause-free : goal.offer-requires-clause-free
offer-requires-clause-free c = subst (λ (d : Desk). is_waiting c.args.from d.waits ≡ false) (sym c.self.view_is) c.requires.free

pub offer-requires-clause-room : goal.offer-requires-clause-room
offer-requires-clause-room c =
    subst (λ (d : Desk). length d.waits.callers + length d.waits.receivers < TASKS) (sym c.self.view_is)
    (wait_room c.args.self.now.tree c.args.self.now.waits c.law.ensures.waits c.args.from c.requires.free c.law.ensures.tree c.requires.live)

pub invariant_of-self : goal.invariant_of-self
invariant_of-self c = (
  c.self.invariant.0,
  subst (λ (waits : Waits). AreWaiters c.self.inside.tree waits) (sym c.offer.ensures.after)
      (offered_wait c.self.inside.tree c.self.inside.waits c.self.invariant.1 (record { from = c.args.from; to = c.args.to; code = to_z w16 (of_z w16 c.args.code) }) c.args.queue
      (subst (λ (d : Desk). lives c.args.from d.tree ≡ true) (sym c.self.view_is) c.requires.live)
      (subst (λ (d : Desk). is_waiting c.args.from d.waits ≡ false) (sym c.self.view_is) c.requires.free)),
)

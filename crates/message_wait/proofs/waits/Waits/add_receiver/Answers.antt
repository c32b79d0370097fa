-- The receiver comes last by number.
use Rattle.std.proofs.Common.{◌≡◌, ◌≤◌, true, sym, subst}
use Rattle.task_numbers.specs.declared.limits.TheConstants.{TASKS}
use Rattle.message_wait.specs.Rendezvous.{Waits, AreByNumber}
use Rattle.message_wait.specs.Rows.{is_last}
use Rattle.message_wait.proofs.Ordered.{pushed_by_number}
use Rattle.message_wait.proofs.waits.Waits.add_receiver.Goals as goal

pub invariant_of-self : goal.invariant_of-self
invariant_of-self c = (
  c.self.invariant.0,
  subst (λ n. TASKS ≤ n) (sym c.push_reserved.ensures.capacity) c.self.invariant.1,
  subst AreByNumber (sym c.push_reserved.ensures.items)
      (pushed_by_number c.self.inside.receivers.items c.args.receiver c.self.invariant.2
      (subst (λ (w : Waits). is_last c.args.receiver.task w.receivers ≡ true) (sym c.self.view_is) c.requires.last)),
)

use Rattle.std.proofs.Common.{◌≡◌, true, List, sym, subst}
use Rattle.std.proofs.lemmas.List.Elements.{All-nil}
use Rattle.task_numbers.specs.declared.number.TaskNo.{TaskNo}
use Rattle.message_wait.specs.Rendezvous.{Waits}
use Rattle.task_tree.specs.Tree.{lives}
use Rattle.task_desk.specs.Desks.{AllLive, AreWaiters}
use Rattle.task_desk.proofs.Waiting.{nobody_waits}
use Rattle.task_desk.proofs.desk.TaskDesk.opening.Goals as goal

pub invariant_of-result : goal.invariant_of-result
invariant_of-result c = (
  subst (λ (ready : List TaskNo). AllLive c.in_ok-opening.field-0 ready) (sym c.in_ok-new.ensures)
      (All-nil (λ (t : TaskNo). lives t c.in_ok-opening.field-0 ≡ true)),
  subst (λ (waits : Waits). AreWaiters c.in_ok-opening.field-0 waits) (sym c.in_ok-new-2.ensures) (nobody_waits c.in_ok-opening.field-0),
)

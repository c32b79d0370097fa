use Rattle.std.proofs.Common.{◌≡◌, Result, Ok, Err, OnOk, OnErr, sym, subst}
use Rattle.message_wait.specs.Rendezvous.{Waits, released}
use Rattle.task_tree.specs.Tree.{Tree}
use Rattle.task_numbers.specs.declared.number.TaskNo.{TaskNo}
use Rattle.task_desk.specs.Desks.{AreWaiters}
use Rattle.task_desk.proofs.Waiting.{released_wait}
use Rattle.task_desk.proofs.desk.TaskDesk.gone.Goals as goal

either : {A E : Type 0} (r : Result A E) (tree : Tree) (before after : Waits) (t : TaskNo) → OnOk r (after ≡ released t before) → OnErr r (after ≡ before)
    → AreWaiters tree before → AreWaiters tree after
either (Ok x) tree before after t ok err are = subst (AreWaiters tree) (sym ok) (released_wait tree before are t)
either (Err e) tree before after t ok err are = subst (AreWaiters tree) (sym err) are

pub invariant_of-self : goal.invariant_of-self
invariant_of-self c = (
  c.self.invariant.0,
  either c.gone.result c.self.inside.tree c.self.inside.waits c.gone.new.self c.args.task c.gone.ensures.after c.gone.ensures.unchanged c.self.invariant.1,
)

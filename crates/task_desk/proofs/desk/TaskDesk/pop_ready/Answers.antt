use Rattle.std.proofs.Common.{◌≡◌, true, List, sym, subst}
use Rattle.std.proofs.lemmas.List.Elements.{All-drop}
use Rattle.task_numbers.specs.declared.number.TaskNo.{TaskNo}
use Rattle.task_tree.specs.Tree.{lives}
use Rattle.task_desk.specs.Desks.{AllLive}
use Rattle.task_desk.proofs.desk.TaskDesk.pop_ready.Goals as goal

pub invariant_of-self : goal.invariant_of-self
invariant_of-self c = (
  subst (λ (ready : List TaskNo). AllLive c.self.inside.tree ready) (sym c.next.ensures.others)
      (All-drop (λ (t : TaskNo). lives t c.self.inside.tree ≡ true) 1 c.self.inside.ready c.self.invariant.0),
  c.self.invariant.1,
)

use Rattle.std.proofs.Common.{None, sym, ◌∙◌}
use Rattle.task_tree.specs.Tree as tree
use Rattle.supervisor.proofs.Beginning.{begins, father_lives, begun_under}
use Rattle.supervisor.proofs.Kept.{on_ok}
use Rattle.supervisor.proofs.begin.begin_under.Goals as goal

pub returns-in-None : goal.returns-in-None
returns-in-None c =
    on_ok c.begun.result c.begun.ensures
    (λ h m stands.
    let under = c.named-under.result in
    let same = c.named-under.ensures m stands in
    let none = sym c.in-None.is ∙ c.in_ok-answer.ensures m stands in
    let free = begins c.args.name.now under m.system none in
    begun_under c.begun.new.system c.args.channel c.args.name.now under (tree.named c.args.father.now m.system.shared.tree) None m same none
    (h m (father_lives c.args.father.now under m.system.shared.tree same free.0) free.1 stands))

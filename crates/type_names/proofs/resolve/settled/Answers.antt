use Rattle.std.proofs.Common.{sym, ◌∙◌}
use Rattle.type_names.proofs.Order.{is_settled}
use Rattle.type_names.proofs.resolve.settled.Goals as goal

pub returns-then-branch : goal.returns-then-branch
returns-then-branch c = λ r.
    is_settled c.args.around.first c.args.around.names.now c.args.definitions.now c.args.names r (sym c.in_ok-are_settled.ensures ∙ c.if-branch.true)

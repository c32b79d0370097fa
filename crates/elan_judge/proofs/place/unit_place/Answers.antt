use Rattle.std.proofs.Common.{◌∙◌}
use Rattle.elan_judge.proofs.Shapes.{value_place}
use Rattle.elan_judge.proofs.place.unit_place.Goals as goal

pub returns-in-Value : goal.returns-in-Value
returns-in-Value c = λ s. c.expr_place.ensures s ∙ value_place s c.args.unit.now c.in-Value.expr c.in-Value.is

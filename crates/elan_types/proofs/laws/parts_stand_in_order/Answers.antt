use Rattle.elan_types.proofs.Nested.{stand_in_order}
use Rattle.elan_types.proofs.laws.parts_stand_in_order.Goals as goal

pub returns : goal.returns
returns c = λ s. stand_in_order s

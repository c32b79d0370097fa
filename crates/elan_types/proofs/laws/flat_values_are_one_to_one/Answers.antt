use Rattle.elan_types.proofs.Nested.{one_to_one}
use Rattle.elan_types.proofs.laws.flat_values_are_one_to_one.Goals as goal

pub returns : goal.returns
returns c = λ s. one_to_one s

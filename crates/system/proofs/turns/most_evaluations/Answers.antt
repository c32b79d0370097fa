use Rattle.std.proofs.Common.{refl}
use Rattle.system.specs.Below.system_meaning.specs.Turns.{most_evaluations}
use Rattle.system.proofs.turns.most_evaluations.Goals as goal

pub returns : goal.returns
unfolding most_evaluations
returns c = refl

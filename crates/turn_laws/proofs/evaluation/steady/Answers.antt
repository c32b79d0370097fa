use Rattle.turn_laws.proofs.Commands.{is_steady}
use Rattle.turn_laws.proofs.evaluation.steady.Goals as goal

pub returns : goal.returns
returns c = λ core packets spaces. is_steady core packets spaces

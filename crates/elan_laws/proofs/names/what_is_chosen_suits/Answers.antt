use Rattle.elan_laws.proofs.Suited.{suited}
use Rattle.elan_laws.proofs.names.what_is_chosen_suits.Goals as goal

pub returns : goal.returns
returns c = λ at s sort x ms d actuals e g. suited at ms sort x s d actuals e g

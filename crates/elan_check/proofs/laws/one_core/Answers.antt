use Rattle.elan_check.proofs.OneAnswer.{one_core}
use Rattle.elan_check.proofs.laws.one_core.Goals as goal

pub returns : goal.returns
returns c = λ e t b d h k. one_core e t b d h k

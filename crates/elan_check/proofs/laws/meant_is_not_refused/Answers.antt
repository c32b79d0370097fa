use Rattle.elan_check.proofs.OneAnswer.{meant_is_not_refused}
use Rattle.elan_check.proofs.laws.meant_is_not_refused.Goals as goal

pub returns : goal.returns
returns c = λ e t b f h k. meant_is_not_refused e t b f h k

use Rattle.elan_check.proofs.OneAnswer.{one_refusal}
use Rattle.elan_check.proofs.laws.one_refusal.Goals as goal

pub returns : goal.returns
returns c = λ e t f g h k. one_refusal e t f g h k

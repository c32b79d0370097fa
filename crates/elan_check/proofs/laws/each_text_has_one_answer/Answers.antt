use Rattle.elan_check.proofs.OneAnswer.{one_answer}
use Rattle.elan_check.proofs.laws.each_text_has_one_answer.Goals as goal

pub returns : goal.returns
returns c = λ e h t. one_answer e h t

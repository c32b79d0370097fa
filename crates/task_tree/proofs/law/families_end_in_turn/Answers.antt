use Rattle.task_tree.proofs.Ending.{family_ends, ended_stays}
use Rattle.task_tree.proofs.law.families_end_in_turn.Goals as goal

pub returns-clause-turn : goal.returns-clause-turn
returns-clause-turn c = λ s t tree live later. family_ends s t tree live later

pub returns-clause-stays : goal.returns-clause-stays
returns-clause-stays c = λ s t tree can. ended_stays s t tree can

use Rattle.std.proofs.Common.{refl, ◌-◌}
use Rattle.task_numbers.specs.declared.limits.TheConstants.{TASKS}
use Rattle.task_tree.proofs.Descents.{below, family_lives}
use Rattle.task_tree.proofs.law.families_live.Goals as goal

pub returns-clause-last : goal.returns-clause-last
returns-clause-last c = λ s t. (below (TASKS - 1) t s, refl)

pub returns-clause-live : goal.returns-clause-live
returns-clause-live c = λ s t live. family_lives s t live

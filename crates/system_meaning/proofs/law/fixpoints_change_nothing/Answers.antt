use Rattle.std.proofs.Common.{refl}
use Rattle.system_meaning.proofs.law.fixpoints_change_nothing.Goals as goal

pub returns-clause-fixpoint : goal.returns-clause-fixpoint
returns-clause-fixpoint c = λ read s. refl

pub returns-clause-shut : goal.returns-clause-shut
returns-clause-shut c = λ read s. refl

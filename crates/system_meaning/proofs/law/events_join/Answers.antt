use Rattle.system_meaning.proofs.Runs.{run_join, output_join}
use Rattle.system_meaning.proofs.law.events_join.Goals as goal

pub returns-clause-system : goal.returns-clause-system
returns-clause-system c = λ read s es fs. run_join read s es fs

pub returns-clause-shown : goal.returns-clause-shown
returns-clause-shown c = λ read plain s es fs. output_join read plain s es fs

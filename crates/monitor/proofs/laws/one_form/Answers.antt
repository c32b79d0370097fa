use Rattle.monitor.proofs.OneCommand.{one_command}
use Rattle.monitor.proofs.OneForm.{one_form}
use Rattle.monitor.specs.Words.{words}
use Rattle.monitor.proofs.laws.one_form.Goals as goal

pub returns-clause-task : goal.returns-clause-task
returns-clause-task c = one_form (words c.args.tokens.now)

pub returns-clause-supervisor : goal.returns-clause-supervisor
returns-clause-supervisor c = one_command (words c.args.tokens.now)

use Rattle.task_texts.proofs.Seen.{names_seen}
use Rattle.task_texts.proofs.look.names.Goals as goal

pub returns : goal.returns
returns c = names_seen c.names.result c.args.task.now c.names.ensures

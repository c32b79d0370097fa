use Rattle.task_texts.proofs.Seen.{source_seen}
use Rattle.task_texts.proofs.look.source_under.Goals as goal

pub returns-in-Ok-clause-source : goal.returns-in-Ok-clause-source
returns-in-Ok-clause-source c =
    source_seen c.in-Ok.source c.args.pool.now c.args.task.now c.args.name.now c.in-Ok.ensures.none c.in-Ok.ensures.text

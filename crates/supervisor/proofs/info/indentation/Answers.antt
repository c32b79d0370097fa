use Rattle.supervisor.proofs.Telling.{two_more}
use Rattle.supervisor.proofs.info.indentation.Goals as goal

pub loop-preserved : goal.loop-preserved
loop-preserved c = cc (two_more c.loop.counter, c.in_ok-append.ensures.ok)

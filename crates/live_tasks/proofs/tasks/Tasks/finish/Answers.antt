use Rattle.live_tasks.proofs.Over.{finishes}
use Rattle.live_tasks.proofs.tasks.Tasks.finish.Goals as goal

pub returns : goal.returns
returns c = λ kinds_of owns own command w h has is.
    finishes kinds_of c.args.self.now owns c.args.k command w h own has c.args.unit.now is c.requires.unit c.requires.program

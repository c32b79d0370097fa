use Rattle.live_system.proofs.Moments.{whole_law}
use Rattle.live_system.proofs.system.System.law.Goals as goal

pub returns : goal.returns
returns c = whole_law c.self.inside.desk c.self.inside.packets c.self.inside.tasks c.args.self.now c.self.view_is c.law.ensures

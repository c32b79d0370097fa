use Rattle.live_system.specs.Below.system_meaning.specs.Systems.{on_system, couple}
use Rattle.live_system.proofs.Moments.{stepped, couple_keeps}
use Rattle.live_system.proofs.system.System.couple.Goals as goal

pub returns : goal.returns
returns c =
    stepped c.self.inside.desk c.self.inside.packets c.self.inside.tasks c.args.self.now c.self.view_is
    (on_system (couple c.args.channel c.args.task)) (couple_keeps c.args.channel c.args.task) c.couple.new.self c.couple.ensures

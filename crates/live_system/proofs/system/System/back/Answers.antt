use Rattle.live_system.specs.Below.system_meaning.specs.Systems.{on_system, back}
use Rattle.live_system.proofs.Moments.{stepped, back_keeps}
use Rattle.live_system.proofs.system.System.back.Goals as goal

pub returns : goal.returns
returns c =
    stepped c.self.inside.desk c.self.inside.packets c.self.inside.tasks c.args.self.now c.self.view_is
    (on_system (back c.args.task)) (back_keeps c.args.task) c.back.new.self c.back.ensures

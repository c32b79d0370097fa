use Rattle.std.proofs.lemmas.Result.{on_ok_weaker}
use Rattle.live_system.specs.Below.system_meaning.specs.Systems.{tell}
use Rattle.live_system.proofs.Moments.{stepped, tell_keeps}
use Rattle.live_system.proofs.system.System.tell.Goals as goal

pub returns : goal.returns
returns c =
    on_ok_weaker c.tell.result
    (λ makes. stepped c.self.inside.desk c.self.inside.packets c.self.inside.tasks c.args.self.now c.self.view_is
    (tell c.args.task c.args.bytes.now) (tell_keeps c.args.task c.args.bytes.now) c.tell.new.self makes)
    c.tell.ensures

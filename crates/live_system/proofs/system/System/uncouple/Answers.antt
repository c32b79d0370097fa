use Rattle.std.proofs.lemmas.Result.{on_ok_weaker}
use Rattle.std.proofs.Common.{refl}
use Rattle.live_system.specs.Below.system_meaning.specs.Systems.{uncouple}
use Rattle.live_system.proofs.Moments.{stepped}
use Rattle.live_system.proofs.system.System.uncouple.Goals as goal

pub returns : goal.returns
returns c =
    on_ok_weaker c.uncouple.result
    (λ makes. stepped c.self.inside.desk c.self.inside.packets c.self.inside.tasks c.args.self.now c.self.view_is
    (uncouple c.args.channel) (λ m. refl) c.uncouple.new.self makes)
    c.uncouple.ensures

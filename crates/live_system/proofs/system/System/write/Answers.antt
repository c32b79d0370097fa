use Rattle.std.proofs.lemmas.Result.{on_ok_weaker}
use Rattle.std.proofs.Common.{refl}
use Rattle.live_system.specs.Below.system_meaning.specs.Systems.{write}
use Rattle.live_system.proofs.Moments.{stepped}
use Rattle.live_system.proofs.system.System.write.Goals as goal

pub returns : goal.returns
returns c =
    on_ok_weaker c.write.result
    (λ makes. stepped c.self.inside.desk c.self.inside.packets c.self.inside.tasks c.args.self.now c.self.view_is
    (write c.args.channel c.args.bytes.now c.args.ends) (λ m. refl) c.write.new.self makes)
    c.write.ensures

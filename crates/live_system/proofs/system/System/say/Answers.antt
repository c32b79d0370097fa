use Rattle.std.proofs.lemmas.Result.{on_ok_weaker}
use Rattle.std.proofs.Common.{refl}
use Rattle.live_system.specs.Below.system_meaning.specs.Systems.{say}
use Rattle.live_system.proofs.Moments.{stepped}
use Rattle.live_system.proofs.system.System.say.Goals as goal

pub returns : goal.returns
returns c =
    on_ok_weaker c.say.result
    (λ makes. stepped c.self.inside.desk c.self.inside.packets c.self.inside.tasks c.args.self.now c.self.view_is
    (say c.args.channel c.args.bytes.now) (λ m. refl) c.say.new.self makes)
    c.say.ensures

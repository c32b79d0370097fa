use Rattle.std.proofs.lemmas.Result.{on_ok_weaker}
use Rattle.std.proofs.Common.{refl}
use Rattle.live_system.specs.Below.session_text.specs.Display.{close_all}
use Rattle.live_system.specs.Below.system_meaning.specs.Systems.{on_display}
use Rattle.live_system.proofs.Moments.{stepped}
use Rattle.live_system.proofs.system.System.close_all.Goals as goal

pub returns : goal.returns
returns c =
    on_ok_weaker c.close_all.result
    (λ makes. stepped c.self.inside.desk c.self.inside.packets c.self.inside.tasks c.args.self.now c.self.view_is
    (on_display close_all) (λ m. refl) c.close_all.new.self makes)
    c.close_all.ensures

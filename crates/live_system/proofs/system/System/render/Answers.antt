use Rattle.std.proofs.Common.{◌++◌}
use Rattle.std.proofs.lemmas.Result.{on_ok_weaker}
use Rattle.live_system.specs.Below.session_text.specs.Display.{rendered}
use Rattle.live_system.specs.Below.system_meaning.specs.Systems.{Moment}
use Rattle.live_system.proofs.Moments.{looked}
use Rattle.live_system.proofs.system.System.render.Goals as goal

pub returns : goal.returns
returns c =
    on_ok_weaker c.render.result
    (λ is. looked c.self.inside.desk c.self.inside.packets c.self.inside.tasks c.args.self.now c.self.view_is
    (λ (m : Moment). c.args.out.now ++ rendered c.args.plain m.display.shown) c.render.new.out (λ owns. is))
    c.render.ensures

use Rattle.std.proofs.Common.{refl, drop}
use Rattle.std.specs.Prelude.{slice_get}
use Rattle.live_system.specs.Below.system_meaning.specs.Systems.{Moment, on_system, on_ready}
use Rattle.live_system.proofs.Moments.{looked, stepped}
use Rattle.live_system.proofs.system.System.next_ready.Goals as goal

pub returns-clause-first : goal.returns-clause-first
returns-clause-first c =
    looked c.self.inside.desk c.self.inside.packets c.self.inside.tasks c.args.self.now c.self.view_is
    (λ (m : Moment). slice_get m.system.shared.ready 0) c.pop_ready.result (λ owns. c.pop_ready.ensures.task)

pub returns-clause-others : goal.returns-clause-others
returns-clause-others c =
    stepped c.self.inside.desk c.self.inside.packets c.self.inside.tasks c.args.self.now c.self.view_is
    (on_system (on_ready (drop 1))) (λ m. refl) c.pop_ready.new.self c.pop_ready.ensures.others

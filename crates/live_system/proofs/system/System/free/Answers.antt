use Rattle.message_wait.specs.Rendezvous.{released}
use Rattle.live_system.specs.Below.system_meaning.specs.Systems.{on_system, on_waits}
use Rattle.std.proofs.Common.{◌∙◌}
use Rattle.live_system.proofs.Waiting.{freed_so}
use Rattle.live_system.proofs.system.System.free.Goals as goal

pub returns : goal.returns
returns c = λ m s.
    freed_so c.wake_each.new.self c.args.task c.as_slice.result.now m (c.as_slice.ensures ∙ c.in_ok-waiting.ensures.tasks m s)
    (c.in_ok-wake_each.ensures (on_system (on_waits (released c.args.task)) m) (c.in_ok-waiting.ensures.after m s))

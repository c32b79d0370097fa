use Rattle.std.proofs.Common.{subst}
use Rattle.live_system.specs.Below.live_task.specs.declared.task.Went.{Went as Task}
use Rattle.live_system.specs.Below.live_task.specs.Stands.{IsWhole}
use Rattle.live_system.proofs.commands.as_finished.Goals as goal

pub of-requires : goal.of-requires
of-requires c = subst (λ (w : Task). IsWhole w) c.in-Over.is c.requires

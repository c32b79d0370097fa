-- Data spaces on their way from task to task.
use Rattle.std.specs.Prelude.{Bool, true, false}
use Rattle.eu_base.specs.DataSpaces.{Space}
use Rattle.eu_base.specs.SoundSpaces.{CanCome}
use Rattle.task_messages.specs.Below.page_pool.specs.Pool.{Pages}
use Rattle.task_messages.specs.Below.data_space.specs.Data.{SpaceData}
use Rattle.task_messages.specs.Below.task_job.specs.Here.{HoldsSpace}
use Rattle.task_messages.specs.Below.live_task.specs.declared.task.Doing.{Doing as Does}
use Rattle.task_messages.specs.Below.live_task.specs.declared.task.Doing.TheVariants as does

-- its pages hold what stands in it, which can come to another task
pub record Carries (pages : Pages) (space : SpaceData) (content : Space) : Type 0 where
  pub holds : HoldsSpace pages space content
  pub can : CanCome content

-- a task runs a command
abbrev pub does_run : Does → Bool
does_run (does.Running job) = true
does_run _ = false

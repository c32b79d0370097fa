-- Whether a task is idle, or a text is entered.
use Rattle.std.specs.Prelude.{Bool, true, false}
use Rattle.task_texts.specs.Below.system_meaning.specs.Tasks.{Doing, Idle, Entering}
use Rattle.live_task.specs.declared.task.Doing.{Doing as Does}
use Rattle.live_task.specs.declared.task.Doing.TheVariants as does

abbrev pub is_idle : Doing → Bool
is_idle (Idle store) = true
is_idle _ = false

abbrev pub is_entering : Doing → Bool
is_entering (Entering name lines store) = true
is_entering _ = false

-- the same of a task over its pages
abbrev pub rests : Does → Bool
rests does.Idle = true
rests _ = false

abbrev pub enters : Does → Bool
enters (does.Entering name lines) = true
enters _ = false

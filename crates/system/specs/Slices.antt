-- When a slice needs no more evaluations than it may have.
use Rattle.std.specs.Prelude.{◌≡◌, ℕ, ◌+◌, Bool, List}
use Rattle.task_numbers.specs.declared.number.TaskNo.{TaskNo}
use Rattle.system.specs.Below.elan_scope.specs.declared.env.Env.{Env}
use Rattle.system.specs.Below.system_meaning.specs.Systems.{Moment}
use Rattle.system.specs.Below.system_meaning.specs.Monitor.{Reading}
use Rattle.system.specs.Below.system_meaning.specs.Turns.{slice, turn_marks}

-- with more evaluations than n a slice of the task would end the same, whatever texts are read as
abbrev pub IsEnough : ℕ → TaskNo → Moment → Type 0
IsEnough n t m = (read : Env → Bool → List ℕ → Reading) (more : ℕ) → slice read (n + more) t turn_marks m ≡ slice read n t turn_marks m

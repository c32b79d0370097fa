-- A command that is halted.
use Rattle.std.proofs.Common.{◌≡◌, Option, Some, None, subst}
use Rattle.std.specs.Prelude.{option_and_then}
use Rattle.task_numbers.specs.declared.number.TaskNo.{TaskNo}
use Rattle.eu_base.specs.declared.stop.Stop.TheVariants.{Halted}
use Rattle.supervisor.specs.Below.system_meaning.specs.Tasks.{Command, Doing, Running, command_of, ending, world_of}
use Rattle.supervisor.specs.Below.system_meaning.specs.Systems.{Moment}
use Rattle.supervisor.specs.Below.live_system.specs.declared.runs.Finished.{Finished}
use Rattle.supervisor.specs.Below.live_system.specs.Machines.{Machine, StandsOverAt}
use Rattle.supervisor.specs.Below.live_system.specs.Steps.{HaltedAs}

-- it is over where it stands
pub halted_over : (middle : Machine) (finished : Finished) (t : TaskNo) (c : Command) (d : Option Doing) (m : Moment) → d ≡ Some (Running c)
    → HaltedAs (option_and_then command_of d) middle (Some finished) t m
    → (finished.unit ≡ c.unit) × (finished.stop ≡ Some Halted) × StandsOverAt middle t c (world_of (ending c 0)) m
halted_over middle finished t c d m is h = subst (λ d. HaltedAs (option_and_then command_of d) middle (Some finished) t m) is h

-- a task that runs one is halted
pub is_halted : (middle : Machine) (t : TaskNo) (c : Command) (d : Option Doing) (m : Moment) → d ≡ Some (Running c)
    → HaltedAs (option_and_then command_of d) middle None t m → ⊥
is_halted middle t c d m is h = subst (λ d. HaltedAs (option_and_then command_of d) middle None t m) is h

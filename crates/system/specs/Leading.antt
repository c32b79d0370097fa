-- What is still to happen in the course of turns.
use Rattle.std.specs.Prelude.{◌≡◌, Bool, true, false}
use Rattle.task_numbers.specs.declared.number.TaskNo.{TaskNo}
use Rattle.turn_laws.specs.Waits.{HasTurn}
use Rattle.system.specs.Below.system_meaning.specs.Systems.{Moment}
use Rattle.system.specs.Below.live_system.specs.Machines.{Machine, StandsAt}

abbrev pub further : Bool → (Moment → Moment) → Moment → Moment
further true more m = more m
further false more m = m

-- a task that goes on has its turn still
abbrev pub TurnGoes : TaskNo → Bool → Moment → Type 0
TurnGoes t true m = HasTurn t m.system
TurnGoes t false m = Unit {0}

-- The machine stands for a moment of which this is known; what happens from there, or that moment itself where it does not go on, is the last.
pub record Leads (goes : Bool) (Known : Moment → Type 0) (now : Machine) (more : Moment → Moment) (last : Moment) : Type 0 where
  pub moment : Moment
  pub stands : StandsAt now moment
  pub known : Known moment
  pub rest : last ≡ further goes more moment

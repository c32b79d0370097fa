-- When a machine stands for a system of tasks, between events.
use Rattle.std.specs.Prelude.{◌≤◌, length}
use Rattle.task_numbers.specs.declared.limits.TheConstants.{LONGEST_LINE}
use Rattle.session_text.specs.declared.events.Event.{Event}
use Rattle.session_text.specs.declared.events.Event.TheVariants.{Line, Supervisor, Turns, Fixpoint, Shut}
use Rattle.turn_laws.specs.Waits.{AreOrderly}
use Rattle.session_text.specs.Display.{Display}
use Rattle.system.specs.Below.system_meaning.specs.Systems.{System, Moment}
use Rattle.system.specs.Below.live_system.specs.Machines.{Machine, StandsAt}

-- a machine stands for a moment, in which those that wait for messages do so rightly
pub record Stands (now : Machine) (m : Moment) : Type 0 where
  pub at : StandsAt now m
  pub orderly : AreOrderly m.system

-- whatever was shown in the course of the last event
unfoldable pub StandsFor : Machine → System → Type 0
StandsFor now s = (display : Display) × Stands now (record { system = s; display = display })

-- a line has at most 250 bytes, and comes at one of the four channels; so does a call
abbrev pub IsShort : Event → Type 0
IsShort (Line c text) = (1 ≤ c) × (c ≤ 4) × (length text ≤ LONGEST_LINE)
IsShort (Supervisor c) = (1 ≤ c) × (c ≤ 4)
IsShort (Turns n) = Unit {0}
IsShort Fixpoint = Unit {0}
IsShort Shut = Unit {0}

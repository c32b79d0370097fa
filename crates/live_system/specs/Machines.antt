-- When a machine stands for a moment of the source machine.
use Rattle.std.specs.Prelude.{◌≡◌, ℕ, List, length, Some}
use Rattle.task_numbers.specs.declared.number.TaskNo.{TaskNo}
use Rattle.elan_types.specs.Eval.{World}
use Rattle.live_system.specs.Below.units.specs.Library.{Library}
use Rattle.live_system.specs.Below.task_desk.specs.Desks.{Desk, moment, system}
use Rattle.live_system.specs.Below.live_tasks.specs.Tasks.{Live, Stand, StandOver}
use Rattle.live_system.specs.Below.system_meaning.specs.Tasks.{Command, Own}
use Rattle.live_system.specs.Below.system_meaning.specs.Systems.{Moment, place}
use Rattle.live_system.specs.Below.system_meaning.specs.Whole.{AreAllGiven, AreNumbered}
use Rattle.live_packets.specs.Packets.{kinds_in}

-- what all tasks have together, the live packets, and all tasks over one pool
pub record Machine : Type 0 where
  pub desk : Desk
  pub library : Library
  pub live : Live

-- There are as many tasks as in the tree, and no number of a packet, of a task or alive, is given again.
pub record IsMachine (now : Machine) (owns : List Own) : Type 0 where
  pub as_many : length owns ≡ length now.desk.tree.tasks
  pub given : AreAllGiven now.library.last owns
  pub numbered : AreNumbered now.library

-- ---- what it stands for

-- The machine stands for a moment: the desk and the library are its own, and the tasks stand for what its tasks have for themselves.
pub record StandsAt (now : Machine) (m : Moment) : Type 0 where
  pub owns : List Own
  pub is : moment now.desk now.library owns ≡ m
  pub machine : IsMachine now owns
  pub stand : Stand (kinds_in now.library) now.live owns

-- It stands for this moment but for a task whose command is over, in this world; what that leads to is still to be done.
pub record StandsOverAt (now : Machine) (t : TaskNo) (c : Command) (w : World) (m : Moment) : Type 0 where
  pub owns : List Own
  pub is : moment now.desk now.library owns ≡ m
  pub machine : IsMachine now owns
  pub k : ℕ
  pub at : place t (system now.desk now.library owns) ≡ Some k
  pub over : StandOver (kinds_in now.library) now.live owns k c w

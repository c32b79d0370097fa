-- What all tasks have together, but the live packets, and what is shown in the course of an event.
use Rattle.std.specs.Prelude.{◌≡◌, ℕ, true, List, [], ◌++◌, map, length, All, Option, Some, None}
use Rattle.std.specs.List.{IsDistinct}
use Rattle.task_numbers.specs.declared.number.TaskNo.{TaskNo}
use Rattle.task_numbers.specs.Numbers.{is_task}
use Rattle.eu_base.specs.declared.request.Reply.TheVariants.{Text}
use Rattle.message_wait.specs.declared.waits.Caller.{Caller}
use Rattle.message_wait.specs.declared.waits.Receiver.{Receiver}
use Rattle.message_wait.specs.Rendezvous.{Waits, nobody, left}
use Rattle.task_tree.specs.Tree.{Tree}
use Rattle.task_tree.specs.Tree as trees
use Rattle.task_tree.specs.Trees.{IsTree}
use Rattle.slicer.specs.Rotation.{IsRotation}
use Rattle.slicer.specs.Rotation as rotation
use Rattle.terminals.specs.Channels.{Channel}
use Rattle.terminals.specs.Channels as terminal
use Rattle.terminals.specs.Couplings.{IsOneToOne}
use Rattle.session_text.specs.Display.{Display, blank}
use Rattle.task_desk.specs.Below.units.specs.Library.{Library}
use Rattle.system_meaning.specs.Tasks.{Own}
use Rattle.system_meaning.specs.Systems.{System, Moment}
use Rattle.system_meaning.specs.Serving.{Served, Rests, replies_with}

pub record Desk : Type 0 where
  pub tree : Tree
  pub ready : List TaskNo
  pub waits : Waits
  pub channels : List Channel
  pub display : Display

-- UR and PUBLIC live, none is ready and none waits for messages, no channel is coupled, and nothing is shown
abbrev pub opening : Desk
opening = record { tree = trees.opening; ready = []; waits = nobody; channels = terminal.opening; display = blank }

-- ---- the desk as a part of the source machine

-- the system with these live packets, and with what the tasks have for themselves
abbrev pub system : Desk → Library → List Own → System
system d library owns = record { shared = record { tree = d.tree; ready = d.ready; waits = d.waits; channels = d.channels; library = library }; owns = owns }

abbrev pub moment : Desk → Library → List Own → Moment
moment d library owns = record { system = system d library owns; display = d.display }

-- a step of the source machine, which leaves packets and the tasks' own parts as they are
abbrev pub Makes : (Moment → Moment) → Desk → Desk → Type 0
Makes step before after = (library : Library) (owns : List Own) → moment after library owns ≡ step (moment before library owns)

-- a line that was taken is the reply, and without one it is waited for
abbrev pub line_served : Option (List ℕ) → Moment → Served
line_served None m = Rests m
line_served (Some line) m = replies_with (Text line) m

-- ---- tasks begin and end

-- the tree has a son more
abbrev pub begun : List ℕ → TaskNo → Desk → Desk
begun name father d = record d { tree = trees.begun name father d.tree }

-- a task stands in the tree, the ready list and among those that wait no more
abbrev pub removed : TaskNo → Desk → Desk
removed t d = record d { tree = trees.ended t d.tree; ready = rotation.without t d.ready; waits = left t d.waits }

-- ---- what holds of every desk

-- the ready tasks live
abbrev pub AllLive : Tree → List TaskNo → Type 0
AllLive tree ready = All (λ t. trees.lives t tree ≡ true) ready

-- those that wait for messages: the callers, and the receivers
abbrev pub waiters : Waits → List TaskNo
waiters w = map (λ (c : Caller). c.from) w.callers ++ map (λ (r : Receiver). r.task) w.receivers

-- they live, and none waits twice
pub record AreWaiters (tree : Tree) (w : Waits) : Type 0 where
  pub live : AllLive tree (waiters w)
  pub once : IsDistinct is_task (waiters w)

pub record IsDesk (d : Desk) : Type 0 where
  pub tree : IsTree d.tree
  pub ready : IsRotation d.ready
  pub live : AllLive d.tree d.ready
  pub waits : AreWaiters d.tree d.waits
  pub channels : IsOneToOne d.channels
  pub display : length d.display.unfinished ≡ 4

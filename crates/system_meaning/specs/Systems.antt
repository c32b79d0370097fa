-- The system: what all tasks have together, what each has for itself, and what is shown in the course of an event.
use Rattle.std.specs.Prelude.{ℕ, zero, suc, Bool, false, not, ◌&&◌, is_none, List, [], ◌∷◌, Option, Some, None, option_map, option_and_then, position, if◌then◌else◌}
use Rattle.std.specs.Prelude.{slice_get, codes}
use Rattle.system_meaning.specs.Below.task_numbers.specs.declared.number.TaskNo.{TaskNo}
use Rattle.system_meaning.specs.Below.task_numbers.specs.Numbers.{is_nil}
use Rattle.eu_base.specs.declared.request.Request.{Request}
use Rattle.eu_base.specs.Requests.{Answer}
use Rattle.task_tree.specs.Tree.{Tree, has_number}
use Rattle.task_tree.specs.Tree as tree
use Rattle.slicer.specs.Rotation as rotation
use Rattle.message_wait.specs.Rendezvous.{Waits, nobody}
use Rattle.terminals.specs.Channels.{Channel}
use Rattle.terminals.specs.Channels as channels
use Rattle.session_text.specs.Display.{Display, blank}
use Rattle.session_text.specs.Display as display
use Rattle.units.specs.Library.{Library, none_live}
use Rattle.system_meaning.specs.Stores.{Store, new_store}
use Rattle.system_meaning.specs.Tasks.{Command, Doing, Idle, Own, now, request_of, replied, is_running, command_of, with_doing}

-- the tree of the live tasks, the ready tasks, those that wait for messages, the four channels, and the live packets
pub record Shared : Type 0 where
  pub tree : Tree
  pub ready : List TaskNo
  pub waits : Waits
  pub channels : List Channel
  pub library : Library

-- what the tasks have for themselves stands in the order of the tree
pub record System : Type 0 where
  pub shared : Shared
  pub owns : List Own

-- UR and PUBLIC are idle and have nothing, and no channel is coupled
abbrev pub new_own : Own
new_own = record { packets = []; doing = Idle new_store }

abbrev pub opening : System
opening = record {
  shared = record { tree = tree.opening; ready = []; waits = nobody; channels = channels.opening; library = none_live };
  owns = new_own ∷ (new_own ∷ []);
}

-- ---- one task of the system; where it does not live, nothing is there and nothing changes

-- its place in the order of the tree
abbrev pub place : TaskNo → System → Option ℕ
place t s = position (has_number t) s.shared.tree.tasks

abbrev pub own : TaskNo → System → Option Own
own t s = option_and_then (slice_get s.owns) (place t s)

abbrev pub doing : TaskNo → System → Option Doing
doing t s = option_map (λ o. o.doing) (own t s)

-- what the task at a place has for itself changes
abbrev pub with_own : ℕ → (Own → Own) → List Own → List Own
with_own k f [] = []
with_own zero f (o ∷ owns) = f o ∷ owns
with_own (suc k) f (o ∷ owns) = o ∷ with_own k f owns

abbrev pub changed_at : Option ℕ → (Own → Own) → System → System
changed_at None f s = s
changed_at (Some k) f s = record s { owns = with_own k f s.owns }

abbrev pub changed : TaskNo → (Own → Own) → System → System
changed t f s = changed_at (place t s) f s

-- the request for which a task waits
abbrev pub requested : TaskNo → System → Option Request
requested t s = option_and_then request_of (doing t s)

abbrev pub runs : TaskNo → System → Bool
runs t s = by (doing t s)
  where
    by : Option Doing → Bool
    by None = false
    by (Some d) = is_running d

abbrev pub command : TaskNo → System → Option Command
command t s = option_and_then command_of (doing t s)

-- what a task keeps; one that does not live keeps nothing
abbrev pub kept_by : Option Doing → Store
kept_by None = new_store
kept_by (Some d) = now d

abbrev pub kept : TaskNo → System → Store
kept t s = kept_by (doing t s)

abbrev pub packets_of : Option Own → List ℕ
packets_of None = []
packets_of (Some o) = o.packets

abbrev pub packets : TaskNo → System → List ℕ
packets t s = packets_of (own t s)

-- it does this now
abbrev pub does : TaskNo → Doing → System → System
does t d s = changed t (with_doing d) s

-- it gets an answer, where it makes a request
abbrev pub given : TaskNo → Answer → System → System
given t a s = changed t (λ o. with_doing (replied a o.doing) o) s

-- ---- what all tasks have together changes

abbrev pub sharing : (Shared → Shared) → System → System
sharing f s = record s { shared = f s.shared }

abbrev pub on_ready : (List TaskNo → List TaskNo) → System → System
on_ready f s = sharing (λ h. record h { ready = f h.ready }) s

abbrev pub on_waits : (Waits → Waits) → System → System
on_waits f s = sharing (λ h. record h { waits = f h.waits }) s

abbrev pub on_channels : (List Channel → List Channel) → System → System
on_channels f s = sharing (λ h. record h { channels = f h.channels }) s

-- a task comes to the end of the ready list, where it lives and does not stand in it
abbrev pub can_be_ready : TaskNo → System → Bool
can_be_ready t s = tree.lives t s.shared.tree && not (rotation.is_ready t s.shared.ready)

abbrev pub back : TaskNo → System → System
back t s = if can_be_ready t s then on_ready (rotation.at_back t) s else s

-- a task is coupled to a channel, where it is coupled to none and the channel is free
abbrev pub can_couple : ℕ → TaskNo → System → Bool
can_couple c t s = is_nil (channels.channel c s.shared.channels).task && is_none (channels.channel_of t s.shared.channels)

abbrev pub couple : ℕ → TaskNo → System → System
couple c t s = if can_couple c t s then on_channels (channels.coupled c t) s else s

-- a task that waits gets its answer, and is ready
abbrev pub woken : TaskNo → Answer → System → System
woken t a s = back t (given t a s)

-- ---- in the course of an event

-- the system, and what was shown so far
pub record Moment : Type 0 where
  pub system : System
  pub display : Display

abbrev pub at_event : System → Moment
at_event s = record { system = s; display = blank }

abbrev pub on_system : (System → System) → Moment → Moment
on_system f m = record m { system = f m.system }

abbrev pub on_display : (Display → Display) → Moment → Moment
on_display f m = record m { display = f m.display }

-- a task writes at a channel
abbrev pub write : ℕ → List ℕ → Bool → Moment → Moment
write c bytes ends m = on_display (display.write c bytes ends) m

-- a prompt or a message is shown at a channel
abbrev pub say : ℕ → List ℕ → Moment → Moment
say c bytes m = on_display (display.say c bytes) m

abbrev pub say_at : Option ℕ → List ℕ → Moment → Moment
say_at None bytes m = m
say_at (Some c) bytes m = say c bytes m

-- and where a task is coupled
abbrev pub tell : TaskNo → List ℕ → Moment → Moment
tell t bytes m = say_at (channels.channel_of t m.system.shared.channels) bytes m

abbrev pub prompt : List ℕ
prompt = codes "gib kommando :"

abbrev pub supervisor_prompt : List ℕ
supervisor_prompt = codes "gib supervisor kommando :"

-- the channel is free for another, and its queue empty
abbrev pub uncouple : ℕ → Moment → Moment
uncouple c m = say c supervisor_prompt (on_system (on_channels (channels.uncoupled c)) m)

abbrev pub uncouple_at : Option ℕ → Moment → Moment
uncouple_at None m = m
uncouple_at (Some c) m = uncouple c m

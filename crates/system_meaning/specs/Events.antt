-- What an event does to the system, and what it shows.
use Rattle.std.specs.Prelude.{ℕ, Bool, true, false, List, [], ◌∷◌, ◌++◌, codes, Option, Some, if◌then◌else◌}
use Rattle.system_meaning.specs.Below.task_numbers.specs.declared.number.TaskNo.{TaskNo}
use Rattle.system_meaning.specs.Below.task_numbers.specs.Numbers.{is_nil}
use Rattle.eu_base.specs.declared.request.Request.{Request}
use Rattle.eu_base.specs.declared.request.Request.TheVariants.{Input}
use Rattle.system_meaning.specs.Below.elan_scope.specs.declared.env.Env.{Env}
use Rattle.terminals.specs.Channels.{is_queue_full}
use Rattle.terminals.specs.Channels as channels
use Rattle.session_text.specs.declared.events.Event.{Event}
use Rattle.session_text.specs.declared.events.Event.TheVariants.{Line, Supervisor, Turns, Fixpoint, Shut}
use Rattle.session_text.specs.Display.{close_all, rendered}
use Rattle.system_meaning.specs.Systems.{System, Moment, runs, requested, woken, on_system, on_channels, on_display, say, at_event}
use Rattle.system_meaning.specs.Serving.{Served, Replies, Rests, input}
use Rattle.system_meaning.specs.Monitor.{Reading, words_of, taken}
use Rattle.system_meaning.specs.Turns.{turns}
use Rattle.system_meaning.specs.Supervisor.{worded, called}

-- a line comes that a task waits for
abbrev pub answered : Served → TaskNo → Moment
answered (Replies a m) t = on_system (woken t a) m
answered (Rests m) t = m

abbrev pub awaited : Option Request → ℕ → TaskNo → Moment → Moment
awaited (Some Input) c t m = answered (input (Some c) m) t
awaited _ c t m = m

-- a line for a task that runs waits in the queue, where it has room
abbrev pub queued : ℕ → TaskNo → List ℕ → Moment → Moment
queued c t line m =
    if is_queue_full (channels.channel c m.system.shared.channels) then say c (codes "Zeile verworfen") m
    else by (on_system (on_channels (channels.queued c line)) m)
  where
    by : Moment → Moment
    by m = awaited (requested t m.system) c t m

-- a fixpoint is reported, at whatever channels the tasks are
abbrev pub point_shown : Event → List ℕ
point_shown Fixpoint = codes "! fixpoint\n"
point_shown Shut = codes "! fixpoint\n"
point_shown _ = []

module _ (read : Env → Bool → List ℕ → Reading) where
  -- a line for a task
  abbrev pub line_for : Bool → ℕ → TaskNo → List ℕ → Moment → Moment
  line_for true c t line m = queued c t line m
  line_for false c t line m = taken read t line m

  -- a line at a channel: it is for the task there, and at an uncoupled one for the supervisor
  abbrev pub line_at : TaskNo → ℕ → List ℕ → Moment → Moment
  line_at t c line m = if is_nil t then worded read (words_of line) c m else line_for (runs t m.system) c t line m

  abbrev pub happens : Event → Moment → Moment
  happens (Line c line) m = line_at (channels.channel c m.system.shared.channels).task c line m
  happens (Supervisor c) m = called (channels.channel c m.system.shared.channels).task c m
  happens (Turns n) m = turns read n m
  happens Fixpoint m = m
  happens Shut m = m

  abbrev pub whole : System → Event → Moment
  whole s e = on_display close_all (happens e (at_event s))

  -- the system after an event
  abbrev pub after : System → Event → System
  after s e = (whole s e).system

  -- what it shows, in the plain form or the other
  abbrev pub shown : Bool → System → Event → List ℕ
  shown plain s e = rendered plain (whole s e).display.shown ++ point_shown e

  -- ---- events one after another

  abbrev pub run : System → List Event → System
  run s [] = s
  run s (e ∷ es) = run (after s e) es

  abbrev pub output : Bool → System → List Event → List ℕ
  output plain s [] = []
  output plain s (e ∷ es) = shown plain s e ++ output plain (after s e) es

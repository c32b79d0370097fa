-- What the supervisor does at a channel.
use Rattle.std.specs.Prelude.{ℕ, ◌*◌, Bool, true, false, is_none, List, [], ◌∷◌, ◌++◌, map, fold, length, replicate, codes, Option, Some, None, if◌then◌else◌}
use Rattle.std.specs.Prelude.{sum}
use Rattle.std.specs.Fmt.{decimal}
use Rattle.system_meaning.specs.Below.task_numbers.specs.declared.number.TaskNo.{TaskNo}
use Rattle.system_meaning.specs.Below.task_numbers.specs.Numbers.{is_nil}
use Rattle.eu_base.specs.declared.stop.Stop.{Stop}
use Rattle.eu_base.specs.declared.stop.Stop.TheVariants.{Halted, BadName}
use Rattle.eu_base.specs.declared.request.Request.{Request}
use Rattle.eu_base.specs.declared.request.Request.TheVariants.{Out}
use Rattle.eu_base.specs.declared.request.Reply.TheVariants.{Done}
use Rattle.eu_base.specs.Requests.{plain}
use Rattle.message_wait.specs.Rendezvous as waits
use Rattle.eu_base.specs.Stops.{stop_text}
use Rattle.elan_tree.specs.declared.token.Word.{Word}
use Rattle.system_meaning.specs.Below.elan_scope.specs.declared.env.Env.{Env}
use Rattle.task_tree.specs.Tree as tree
use Rattle.task_tree.specs.declared.walks.Entry.{Entry}
use Rattle.task_tree.specs.Families.{listed}
use Rattle.slicer.specs.Rotation as rotation
use Rattle.terminals.specs.Channels as channels
use Rattle.monitor.specs.Commands.{command_of}
use Rattle.monitor.specs.declared.commands.Command.{Command}
use Rattle.monitor.specs.declared.commands.Command.TheVariants.{Blank, Begin, Continue, Halt, TaskInfo, StorageInfo, Unknown}
use Rattle.system_meaning.specs.Stores.{is_name, heir}
use Rattle.system_meaning.specs.Tasks.{Doing, Idle, Entering, Running, Own, ending, now, world_of, request_of}
use Rattle.system_meaning.specs.Systems.{System, Moment, doing, requested, kept, does, woken, couple, on_system, on_ready, on_waits, on_channels, write, say, uncouple, prompt, supervisor_prompt}
use Rattle.system_meaning.specs.Ends.{number_refusal, next, begun}
use Rattle.system_meaning.specs.Monitor.{Reading, over}

-- an answer that leaves the channel uncoupled
abbrev pub refused : ℕ → List ℕ → Moment → Moment
refused c answer m = say c supervisor_prompt (say c answer m)

-- ---- begin

abbrev pub father_refusal : Bool → List ℕ → System → Option (List ℕ)
father_refusal true name s = Some (codes "Vatertask gibt es nicht")
father_refusal false name s = by (number_refusal (tree.refusal name s.shared.tree))
  where
    by : Option Stop → Option (List ℕ)
    by None = None
    by (Some stop) = Some (stop_text stop)

-- why no task begins, the first reason that holds
abbrev pub begin_refusal : List ℕ → TaskNo → System → Option (List ℕ)
begin_refusal name father s = if is_name name then father_refusal (is_nil father) name s else Some (stop_text BadName)

abbrev pub begin_unless : Option (List ℕ) → ℕ → List ℕ → TaskNo → Moment → Moment
begin_unless (Some answer) c name father m = refused c answer m
begin_unless None c name father m =
    say c prompt
    (on_system (couple c (next m.system)) (on_system (begun name father (Idle (heir (kept father m.system)))) m))

abbrev pub begin_under : ℕ → List ℕ → TaskNo → Moment → Moment
begin_under c name father m = begin_unless (begin_refusal name father m.system) c name father m

-- ---- a task is coupled, and goes on

-- what waited to be written is written, and an idle task prompts
abbrev pub resumed : Option Doing → Option Request → ℕ → TaskNo → Moment → Moment
resumed (Some (Idle store)) q c t m = say c prompt m
resumed _ (Some (Out bytes ends)) c t m = on_system (woken t (plain Done)) (write c bytes ends m)
resumed _ _ c t m = m

abbrev pub continued : ℕ → TaskNo → Moment → Moment
continued c t m = by (on_system (couple c t) m)
  where
    by : Moment → Moment
    by m = resumed (doing t m.system) (requested t m.system) c t m

-- it lives, and is not coupled yet
abbrev pub coupling_refusal : TaskNo → System → Option (List ℕ)
coupling_refusal t s =
    if is_none (tree.with_number t s.shared.tree) then Some (codes "Task gibt es nicht")
    else if is_none (channels.channel_of t s.shared.channels) then None
    else Some (codes "Task ist schon gekoppelt")

abbrev pub unless : Option (List ℕ) → ℕ → (Moment → Moment) → Moment → Moment
unless (Some answer) c go m = refused c answer m
unless None c go m = go m

-- ---- what is told of tasks

abbrev pub running_state : Option Request → List ℕ
running_state None = codes "rechnet"
running_state (Some q) = codes "wartet"

-- idle, entering, running or waiting
abbrev pub state_of : Option Doing → List ℕ
state_of None = []
state_of (Some (Idle store)) = codes "frei"
state_of (Some (Entering name lines store)) = codes "liest"
state_of (Some (Running c)) = running_state (request_of (Running c))

abbrev pub channel_text : Option ℕ → List ℕ
channel_text None = []
channel_text (Some c) = codes " Kanal " ++ decimal c

-- two blanks for each level below UR
abbrev pub info_line : System → Entry → List ℕ
info_line s e =
    replicate (e.level * 2) 32
    ++ (tree.name e.task s.shared.tree
    ++ (32 ∷ (state_of (doing e.task s) ++ channel_text (channels.channel_of e.task s.shared.channels))))

-- UR and its descendants, each father before its sons, these from the oldest
abbrev pub task_info : System → List (List ℕ)
task_info s = map (info_line s) (listed (record { 0 = 1 }) s.shared.tree)

abbrev pub told : ℕ → List (List ℕ) → Moment → Moment
told c lines m = fold (λ m line. say c line m) m lines

abbrev pub spaces_of : Own → ℕ
spaces_of o = length (now o.doing).spaces.live

abbrev pub storage_info : System → List ℕ
storage_info s =
    codes "Tasks " ++ (decimal (length s.shared.tree.tasks)
    ++ (codes " Datenraeume " ++ (decimal (sum (map spaces_of s.owns))
    ++ (codes " Pakete " ++ decimal (length s.shared.library.live)))))

module _ (read : Env → Bool → List ℕ → Reading) where
  -- a command that runs stops, and waits for no message any more; a text that is entered is dropped
  abbrev pub halted_by : Option Doing → ℕ → TaskNo → Moment → Moment
  halted_by None c t m = m
  halted_by (Some (Idle store)) c t m = say c prompt m
  halted_by (Some (Entering name lines store)) c t m = say c prompt (on_system (does t (Idle store)) m)
  halted_by (Some (Running command)) c t m =
      over read t command (Some Halted) (world_of (ending command 0)) (on_system (on_waits (waits.left t)) (on_system (on_ready (rotation.without t)) m))

  abbrev pub halted : ℕ → TaskNo → Moment → Moment
  halted c t m = halted_by (doing t m.system) c t (on_system (couple c t) m)

  -- a command of the supervisor at an uncoupled channel
  abbrev pub supervised : Command → ℕ → Moment → Moment
  supervised Blank c m = say c supervisor_prompt m
  supervised (Begin name father) c m = begin_under c name (tree.named father m.system.shared.tree) m
  supervised (Continue name) c m = by (tree.named name m.system.shared.tree)
    where
      by : TaskNo → Moment
      by t = unless (coupling_refusal t m.system) c (continued c t) m
  supervised Halt c m = by (channels.channel c m.system.shared.channels).last
    where
      by : TaskNo → Moment
      by t = unless (coupling_refusal t m.system) c (halted c t) m
  supervised TaskInfo c m = say c supervisor_prompt (told c (task_info m.system) m)
  supervised StorageInfo c m = refused c (storage_info m.system) m
  supervised Unknown c m = refused c (codes "unbekanntes Kommando") m

  -- a line without tokens, or with too many, is an unknown command
  abbrev pub worded : Option (List Word) → ℕ → Moment → Moment
  worded None c m = supervised Unknown c m
  worded (Some ws) c m = supervised (command_of ws) c m

-- the supervisor is called: the task of the channel is its last task then
abbrev pub called : TaskNo → ℕ → Moment → Moment
called t c m = if is_nil t then say c supervisor_prompt m else uncouple c (on_system (on_channels (channels.with_last c t)) m)

-- What a task does.
use Rattle.std.specs.Prelude.{ℕ, ◌+◌, ◌-◌, Bool, true, false, List, [], ◌∷◌, ◌++◌, length, take, Option, Some, None}
use Rattle.eu_base.specs.declared.request.Request.{Request}
use Rattle.eu_base.specs.Requests.{Answer}
use Rattle.elan_types.specs.Eval.{World}
use Rattle.elan_types.specs.Command.{Ending, Ended, Stopped, OutOfMarks, Asks, evaluate}
use Rattle.units.specs.declared.unit.Compiled.{Compiled}
use Rattle.system_meaning.specs.Stores.{Store}

-- A command: the text or the start procedure, with the packets of the task and what it means; what the task kept when the command started;
-- the answers that it got; and the marks that it spent.
pub record Command : Type 0 where
  pub unit : Compiled
  pub before : Store
  pub replies : List Answer
  pub marks : ℕ

-- a task is idle, or a text is entered line by line under a name, or it runs a command
pub data Doing : Type 0 where
  Idle : Store → Doing
  Entering : List ℕ → List (List ℕ) → Store → Doing
  Running : Command → Doing

-- the packets of a task, by their numbers in order, and what it does
pub record Own : Type 0 where
  pub packets : List ℕ
  pub doing : Doing

abbrev pub starting : Compiled → Store → Command
starting unit store = record { unit = unit; before = store; replies = []; marks = 0 }

abbrev pub with_reply : Answer → Command → Command
with_reply a c = record c { replies = c.replies ++ a ∷ [] }

-- ---- evaluation

-- how a command stands with so many marks more than it has spent
abbrev pub ending : Command → ℕ → Ending
ending c left = evaluate c.unit.core c.before.variables c.before.spaces (c.marks + left) c.replies

abbrev pub world_of : Ending → World
world_of (Ended w) = w
world_of (Stopped s w) = w
world_of (OutOfMarks w) = w
world_of (Asks q w) = w

-- what is kept in a world: of the variables those of a packet that is being inserted stand last
abbrev pub store_in : World → Store
store_in w = record { variables = w.packets; spaces = w.spaces }

-- without the variables of a packet that is being inserted
abbrev pub settled : ℕ → Store → Store
settled n store = record store { variables = take n store.variables }

abbrev pub own_variables : Command → ℕ
own_variables c = length c.before.variables

-- what a task keeps where it stands
abbrev pub now : Doing → Store
now (Idle s) = s
now (Entering name lines s) = s
now (Running c) = settled (own_variables c) (store_in (world_of (ending c 0)))

-- a command that was evaluated with so many marks more: those that are left were not spent
abbrev pub spent : ℕ → World → Command → Command
spent left w c = record c { marks = (c.marks + left) - w.marks }

-- ---- waiting

abbrev pub request_in : Ending → Option Request
request_in (Asks q w) = Some q
request_in _ = None

-- the request that a command makes with the marks that it has spent: it waits for the reply
abbrev pub request_of : Doing → Option Request
request_of (Idle s) = None
request_of (Entering name lines s) = None
request_of (Running c) = request_in (ending c 0)

-- an answer is given to the request that is made, and else to none
abbrev pub with_reply_to : Option Request → Answer → Doing → Doing
with_reply_to (Some q) a (Running c) = Running (with_reply a c)
with_reply_to _ a d = d

abbrev pub replied : Answer → Doing → Doing
replied a d = with_reply_to (request_of d) a d

-- ---- questions

abbrev pub is_running : Doing → Bool
is_running (Running c) = true
is_running _ = false

abbrev pub command_of : Doing → Option Command
command_of (Running c) = Some c
command_of _ = None

abbrev pub with_doing : Doing → Own → Own
with_doing d o = record o { doing = d }

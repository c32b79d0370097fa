-- What is known of a task in its turn.
use Rattle.std.specs.Prelude.{◌≡◌, ℕ, List, [], ◌∷◌, Some}
use Rattle.task_numbers.specs.declared.number.TaskNo.{TaskNo}
use Rattle.eu_base.specs.declared.request.Request.{Request}
use Rattle.elan_types.specs.Eval.{World}
use Rattle.elan_types.specs.Command.{Asks}
use Rattle.turn_laws.specs.Waits.{HasTurn}
use Rattle.system.specs.Below.system_meaning.specs.Tasks.{Command, Running, ending, spent}
use Rattle.system.specs.Below.system_meaning.specs.Systems.{System, Moment, command, does, given, on_ready, on_system}
use Rattle.system.specs.Below.system_meaning.specs.Serving.{Served, Replies, Rests, serve}
use Rattle.task_requests.specs.Served.{IsAsking}

-- the first ready task gets its turn, and stands no longer in the ready list
abbrev pub TurnBegins : List TaskNo → System → Type 0
TurnBegins [] s = Unit {0}
TurnBegins (t ∷ rest) s = HasTurn t (on_ready (λ _. rest) s)

-- a task that is answered has its turn still
abbrev pub KeptBy : TaskNo → Served → Type 0
KeptBy t (Replies a m) = HasTurn t (given t a m.system)
KeptBy t (Rests m) = Unit {0}

-- where the command of a task has been evaluated with so many marks
abbrev pub evaluated : ℕ → TaskNo → Command → World → Moment → Moment
evaluated left t c w m = on_system (does t (Running (spent left w c))) m

-- what a task that has its turn asks for it asks for rightly, and goes on with the answer
pub record AsksRightly (t : TaskNo) (c : Command) (left : ℕ) (q : Request) (w : World) (m : Moment) : Type 0 where
  pub asks : IsAsking t q (evaluated left t c w m).system
  pub kept : KeptBy t (serve t q (evaluated left t c w m))

abbrev pub KeepsTurn : TaskNo → Moment → Type 0
KeepsTurn t m =
    (c : Command) (left : ℕ) (q : Request) (w : World) → command t m.system ≡ Some c → ending c left ≡ Asks q w → AsksRightly t c left q w m

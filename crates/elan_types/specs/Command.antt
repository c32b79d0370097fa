-- What a command does, from its start on.
use Rattle.std.specs.Prelude.{ℕ, Bool, ◌&&◌, List, [], ◌∷◌, ◌++◌, length, map, Option, Some, None, slice_get}
use Rattle.eu_base.specs.declared.stop.Stop.{Stop}
use Rattle.eu_base.specs.declared.stop.Stop.TheVariants.{CellRoom}
use Rattle.eu_base.specs.declared.request.Request.{Request}
use Rattle.eu_base.specs.Requests.{Answer}
use Rattle.eu_base.specs.declared.value.Kind.{Kind}
use Rattle.eu_base.specs.declared.value.Kind.TheVariants as kinds
use Rattle.eu_base.specs.Values.{blank_of}
use Rattle.eu_base.specs.Room.{cells_fit}
use Rattle.eu_base.specs.DataSpaces.{Spaces}
use Rattle.elan_types.specs.declared.core_phrase.Body.{Body}
use Rattle.elan_types.specs.declared.core_phrase.Core.{Core}
use Rattle.elan_types.specs.Typing.{all_packet_kinds}
use Rattle.elan_types.specs.Eval as outcomes
use Rattle.elan_types.specs.Eval.{Slot, Holds, World, Outcome, bind, branch, Reach, level, all, act, content, called, own_variables}

-- how a command stands with the marks and answers that it has, and the world there
pub data Ending : Type 0 where
  Ended : World → Ending
  Stopped : Stop → World → Ending
  OutOfMarks : World → Ending
  Asks : Request → World → Ending

abbrev pub ending : {A : Type 0} → Outcome A → Ending
ending (outcomes.Gives a w) = Ended w
ending (outcomes.Left e v w) = Ended w
ending (outcomes.Stopped s w) = Stopped s w
ending (outcomes.OutOfMarks w) = OutOfMarks w
ending (outcomes.Asks q w) = Asks q w

-- variables before anything was stored
abbrev pub blanks : List Kind → List Slot
blanks kinds = map (λ k. Holds (blank_of k)) kinds

-- the kinds of the cells of a live call of a PROC without parameters: two of the call, and its variables
abbrev pub call_kinds : Option Body → List Kind
call_kinds None = []
call_kinds (Some b) = kinds.Int ∷ kinds.Int ∷ own_variables b.scope

-- the kinds of the cells that a command has at its start: those of the variables of its level, or of the call of a start procedure
abbrev pub first_kinds : Option ℕ → Core → List Kind
first_kinds None core = core.variables
first_kinds (Some p) core = call_kinds (slice_get core.bodies p)

abbrev pub start_kinds : Core → List Kind
start_kinds core = first_kinds core.start core

-- a command starts with the variables of the packets of its task and with its data spaces. Its own variables are made, those of a packet that is inserted behind them
abbrev pub at_start : Core → List Slot → Spaces → ℕ → List Answer → World
at_start core packets spaces marks replies = record {
  store = blanks (start_kinds core);
  packets = packets ++ blanks core.inserted;
  spaces = spaces;
  marks = marks;
  replies = replies;
}

-- the cells of the command have room, and those of the variables of all packets
abbrev pub start_fits : Core → Bool
start_fits core = cells_fit (length (start_kinds core)) && cells_fit (length (all_packet_kinds core))

-- a phrase of the level's units, with as many calls and turns as there are marks, and nothing pending
abbrev pub from_level : Core → ℕ → Reach
from_level core marks = record { calls = level core.bodies marks; turns = marks; base = 0; held = 0 }

-- the body of a start procedure, whose call is live from the beginning. There is always one
abbrev pub run_started : Core → ℕ → Option Body → World → Outcome (Unit {0})
run_started core marks None w = outcomes.OutOfMarks w
run_started core marks (Some b) w =
    bind (called 0 (content b.content (record { calls = level core.bodies marks; turns = marks; base = 2; held = 0 }) w)) (λ _. outcomes.Gives tt)

-- what a command does: its units, or the body of a start procedure
abbrev pub run_from : Option ℕ → Core → ℕ → World → Outcome (Unit {0})
run_from None core marks w = all (map act core.units) (from_level core marks) w
run_from (Some p) core marks w = run_started core marks (slice_get core.bodies p) w

-- a command, where all variables have room
abbrev pub evaluate_from : Core → World → Ending
evaluate_from core w = ending (branch (start_fits core) (run_from core.start core w.marks) (outcomes.Stopped CellRoom) w)

-- a command with these variables of packets and these data spaces, with so many marks and with these answers
abbrev pub evaluate : Core → List Slot → Spaces → ℕ → List Answer → Ending
evaluate core packets spaces marks replies = evaluate_from core (at_start core packets spaces marks replies)

-- What the system tells a task in its turn.
use Rattle.std.specs.Prelude.{ℕ, zero, suc, ◌+◌, List, [], ◌∷◌, Option, Some, None, if◌then◌else◌}
use Rattle.turn_laws.specs.Below.task_numbers.specs.declared.number.TaskNo.{TaskNo}
use Rattle.eu_base.specs.declared.request.Request.{Request}
use Rattle.eu_base.specs.Requests.{Answer}
use Rattle.turn_laws.specs.Below.elan_names.specs.declared.interface.Interface.{Interface}
use Rattle.elan_types.specs.Command.{Ending, Ended, Stopped, OutOfMarks, Asks}
use Rattle.turn_laws.specs.Below.units.specs.Library.{Library}
use Rattle.system_meaning.specs.Tasks.{Command, Running, ending, spent}
use Rattle.system_meaning.specs.Systems.{Moment, command, does, given, on_ready, on_system}
use Rattle.system_meaning.specs.Serving.{Served, Replies, Rests, serve}
use Rattle.system_meaning.specs.Monitor.{is_full}
use Rattle.system_meaning.specs.Turns.{turn_marks, most_evaluations}

-- the answer to a request, with what stands in a data space that comes with it; and where an insertion comes to its end, the number that the packet gets, or that there is no room for it
pub data Told : Type 0 where
  Replied : Answer → Told
  Inserted : Option ℕ → Told

abbrev pub number_for : Library → Option ℕ
number_for library = if is_full library then None else Some (library.last + 1)

abbrev pub told_over : Option Interface → Library → List Told
told_over None library = []
told_over (Some i) library = Inserted (number_for library) ∷ []

abbrev pub told_served : Served → (Moment → List Told) → TaskNo → List Told
told_served (Replies a m) more t = Replied a ∷ more (on_system (given t a) m)
told_served (Rests m) more t = []

-- it is evaluated as in a slice
abbrev pub told_by : Ending → ℕ → (ℕ → Moment → List Told) → TaskNo → Command → Moment → List Told
told_by (Ended w) left more t c m = told_over c.unit.shown m.system.shared.library
told_by (Stopped stop w) left more t c m = []
told_by (OutOfMarks w) left more t c m = []
told_by (Asks q w) left more t c m = told_served (serve t q (on_system (does t (Running (spent left w c))) m)) (more w.marks) t

abbrev pub told_on : Option Command → ℕ → (ℕ → Moment → List Told) → TaskNo → Moment → List Told
told_on None left more t m = []
told_on (Some c) left more t m = told_by (ending c left) left more t c m

-- all that a task is told in a slice, in order
abbrev pub told : ℕ → TaskNo → ℕ → Moment → List Told
told zero t left m = []
told (suc n) t left m = told_on (command t m.system) left (told n t) t m

-- in its turn
abbrev pub told_first : List TaskNo → Moment → List Told
told_first [] m = []
told_first (t ∷ ready) m = told most_evaluations t turn_marks (on_system (on_ready (λ _. ready)) m)

abbrev pub turn_told : Moment → List Told
turn_told m = told_first m.system.shared.ready m

-- ---- what it asks

abbrev pub asked_served : Served → (Moment → List Request) → TaskNo → List Request
asked_served (Replies a m) more t = more (on_system (given t a) m)
asked_served (Rests m) more t = []

abbrev pub asked_by : Ending → ℕ → (ℕ → Moment → List Request) → TaskNo → Command → Moment → List Request
asked_by (Ended w) left more t c m = []
asked_by (Stopped stop w) left more t c m = []
asked_by (OutOfMarks w) left more t c m = []
asked_by (Asks q w) left more t c m = q ∷ asked_served (serve t q (on_system (does t (Running (spent left w c))) m)) (more w.marks) t

abbrev pub asked_on : Option Command → ℕ → (ℕ → Moment → List Request) → TaskNo → Moment → List Request
asked_on None left more t m = []
asked_on (Some c) left more t m = asked_by (ending c left) left more t c m

-- all that a task asks in a slice, in order
abbrev pub asked : ℕ → TaskNo → ℕ → Moment → List Request
asked zero t left m = []
asked (suc n) t left m = asked_on (command t m.system) left (asked n t) t m

-- in its turn
abbrev pub asked_first : List TaskNo → Moment → List Request
asked_first [] m = []
asked_first (t ∷ ready) m = asked most_evaluations t turn_marks (on_system (on_ready (λ _. ready)) m)

abbrev pub turn_asked : Moment → List Request
turn_asked m = asked_first m.system.shared.ready m

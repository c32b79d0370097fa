-- Turns.
use Rattle.std.specs.Prelude.{ℕ, zero, suc, Bool, List, [], ◌∷◌, Option, Some, None}
use Rattle.system_meaning.specs.Below.task_numbers.specs.declared.number.TaskNo.{TaskNo}
use Rattle.system_meaning.specs.Below.elan_scope.specs.declared.env.Env.{Env}
use Rattle.elan_types.specs.Command.{Ending, Ended, Stopped, OutOfMarks, Asks}
use Rattle.session_text.specs.Display.{close_all}
use Rattle.system_meaning.specs.Tasks.{Command, Running, ending, spent}
use Rattle.system_meaning.specs.Systems.{Moment, command, does, given, on_ready, on_system, on_display, back}
use Rattle.system_meaning.specs.Serving.{Served, Replies, Rests, serve}
use Rattle.system_meaning.specs.Monitor.{Reading, over}

-- the marks that a task can spend in a turn
unfoldable pub turn_marks : ℕ
turn_marks = 100

-- a request costs a mark, so there is one evaluation more than marks; one more where a request that was paid before is waited for; and one more yet
-- where a call's message was taken, since it costs no mark to ask for the answer, for which the task waits then
unfoldable pub most_evaluations : ℕ
most_evaluations = 103

-- where a request is answered, the task goes on with the reply
abbrev pub served : Served → (Moment → Moment) → TaskNo → Moment
served (Replies a m) more t = more (on_system (given t a) m)
served (Rests m) more t = m

module _ (read : Env → Bool → List ℕ → Reading) where
  -- how a slice goes on where the command of a task stands so. Of its marks those that were not spent are left
  abbrev pub went : Ending → ℕ → (ℕ → Moment → Moment) → TaskNo → Command → Moment → Moment
  went (Ended w) left more t c m = over read t c None w m
  went (Stopped stop w) left more t c m = over read t c (Some stop) w m
  went (OutOfMarks w) left more t c m = on_system (back t) (on_system (does t (Running (spent left w c))) m)
  went (Asks q w) left more t c m = served (serve t q (on_system (does t (Running (spent left w c))) m)) (more w.marks) t

  abbrev pub went_on : Option Command → ℕ → (ℕ → Moment → Moment) → TaskNo → Moment → Moment
  went_on None left more t m = m
  went_on (Some c) left more t m = went (ending c left) left more t c m

  -- A task is evaluated with so many marks more than it has spent. Where it makes a request and is answered, it is evaluated again with
  -- that reply and the same marks. There are at most n evaluations.
  abbrev pub slice : ℕ → TaskNo → ℕ → Moment → Moment
  slice zero t left m = m
  slice (suc n) t left m = went_on (command t m.system) left (slice n t) t m

  -- the first ready task has its turn
  abbrev pub turn_of : List TaskNo → Moment → Moment
  turn_of [] m = m
  turn_of (t ∷ rest) m = slice most_evaluations t turn_marks (on_system (on_ready (λ _. rest)) m)

  abbrev pub turn : Moment → Moment
  turn m = on_display close_all (turn_of m.system.shared.ready m)

  abbrev pub turns : ℕ → Moment → Moment
  turns zero m = m
  turns (suc n) m = turns n (turn m)

-- What a task waits to write.
use Rattle.std.specs.Prelude.{ℕ, Bool, List, Option, Some, None}
use Rattle.task_numbers.specs.declared.number.TaskNo.{TaskNo}
use Rattle.eu_base.specs.declared.request.Request.{Request}
use Rattle.eu_base.specs.declared.request.Request.TheVariants.{Out}
use Rattle.eu_base.specs.declared.request.Reply.TheVariants.{Done}
use Rattle.eu_base.specs.Requests.{plain}
use Rattle.supervisor.specs.Below.system_meaning.specs.Systems.{Moment, on_system, woken, write}

-- the bytes that a request is to write, and whether they end the line
abbrev pub output_of : Option Request → Option (List ℕ × Bool)
output_of (Some (Out bytes ends)) = Some (bytes, ends)
output_of _ = None

-- bytes are written for a task, and it goes on
abbrev pub put : List ℕ → Bool → ℕ → TaskNo → Moment → Moment
put bytes ends c t m = on_system (woken t (plain Done)) (write c bytes ends m)

abbrev pub written : Option (List ℕ × Bool) → ℕ → TaskNo → Moment → Moment
written None c t m = m
written (Some output) c t m = put output.0 output.1 c t m

-- What a task does, told apart.
use Rattle.std.specs.Prelude.{Bool, true, false, Option, Some, None}
use Rattle.eu_base.specs.declared.request.Request.{Request}
use Rattle.eu_base.specs.declared.request.Request.TheVariants.{Input}
use Rattle.live_system.specs.Below.system_meaning.specs.Tasks.{Doing, Idle, Entering, Running}
use Rattle.live_system.specs.declared.what.What.{What}
use Rattle.live_system.specs.declared.what.What.TheVariants as whats

abbrev pub what_of : Option Doing → What
what_of None = whats.Gone
what_of (Some (Idle store)) = whats.Idle
what_of (Some (Entering name lines store)) = whats.Entering
what_of (Some (Running c)) = whats.Running

-- it waits for a line
abbrev pub is_input : Option Request → Bool
is_input (Some Input) = true
is_input _ = false

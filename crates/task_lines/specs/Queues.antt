-- Lines that wait are taken one by one.
use Rattle.std.specs.Prelude.{◌≡◌, ℕ, Bool, true, false, List, if◌then◌else◌}
use Rattle.task_numbers.specs.declared.number.TaskNo.{TaskNo}
use Rattle.task_lines.specs.Below.elan_scope.specs.declared.env.Env.{Env}
use Rattle.terminals.specs.Channels as channels
use Rattle.task_lines.specs.Below.system_meaning.specs.Systems.{Moment, runs}
use Rattle.task_lines.specs.Below.system_meaning.specs.Monitor.{Reading, drained_at}
use Rattle.live_system.specs.Machines.{Machine, StandsAt}

-- the oldest line that waits at the channel of a task is taken, unless the task runs; and then more happens
abbrev pub one_taken : (Env → Bool → List ℕ → Reading) → TaskNo → Moment → (Moment → Moment) → Moment
one_taken read t m more =
    if runs t m.system then m else drained_at read (channels.channel_of t m.system.shared.channels) t more m

-- The machine stands where more is to happen; or what happens is nothing, and it stands where it stood.
abbrev pub Follows : Bool → Machine → ((Moment → Moment) → Moment) → Moment → Type 0
Follows true new happens m = (next : Moment) × StandsAt new next × ((more : Moment → Moment) → happens more ≡ more next)
Follows false new happens m = StandsAt new m × ((more : Moment → Moment) → happens more ≡ m)

-- A task that is coupled, and what it does.
use Rattle.std.proofs.Common.{◌≡◌, ℕ, Bool, true, false, List, Option, Some, None, refl, subst}
use Rattle.std.specs.Prelude.{if◌then◌else◌}
use Rattle.task_numbers.specs.declared.number.TaskNo.{TaskNo}
use Rattle.supervisor.specs.Below.terminals.specs.Channels as channels
use Rattle.supervisor.specs.Below.system_meaning.specs.Stores.{Store}
use Rattle.supervisor.specs.Below.system_meaning.specs.Tasks.{Command, Doing, Idle, Entering, Running}
use Rattle.supervisor.specs.Below.system_meaning.specs.Systems.{System, Moment, doing, can_couple, couple, on_channels}
use Rattle.supervisor.specs.Below.system_meaning.specs.Supervisor.{coupling_refusal, unless}
use Rattle.supervisor.specs.Below.live_system.specs.declared.what.What.TheVariants as whats
use Rattle.supervisor.specs.Below.live_system.specs.What.{what_of}
use Rattle.supervisor.specs.Below.live_system.specs.Machines.{Machine, StandsAt}

-- what a task does stays, wherever another is coupled
pub doing_couple : (c : ℕ) (t u : TaskNo) (s : System) → doing t (couple c u s) ≡ doing t s
doing_couple c t u s = by (can_couple c u s)
  where
    by : (b : Bool) → doing t (if b then on_channels (channels.coupled c u) s else s) ≡ doing t s
    by true = refl
    by false = refl

-- it goes on, or why it cannot be coupled is said
pub unless_refused : (new : Machine) (go : TaskNo → Moment → Moment) (c : ℕ) (t u : TaskNo) (o : Option (List ℕ)) (m : Moment) → t ≡ u
    → o ≡ coupling_refusal t m.system → StandsAt new (unless o c (go t) m) → StandsAt new (unless (coupling_refusal u m.system) c (go u) m)
unless_refused new go c t u o m same is h =
    subst (λ v. StandsAt new (unless (coupling_refusal v m.system) c (go v) m)) same
    (subst (λ r. StandsAt new (unless r c (go t) m)) is h)

-- ---- what a task does, by how it is told apart

pub is_idle : (d : Option Doing) → whats.Idle ≡ what_of d → (store : Store) × (d ≡ Some (Idle store))
is_idle None h = cc
is_idle (Some (Idle store)) h = (store, refl)
is_idle (Some (Entering name lines store)) h = cc
is_idle (Some (Running c)) h = cc

pub is_gone : (d : Option Doing) → whats.Gone ≡ what_of d → d ≡ None
is_gone None h = refl
is_gone (Some (Idle store)) h = cc
is_gone (Some (Entering name lines store)) h = cc
is_gone (Some (Running c)) h = cc

pub is_entering : (d : Option Doing) → whats.Entering ≡ what_of d
    → (name : List ℕ) × (lines : List (List ℕ)) × (store : Store) × (d ≡ Some (Entering name lines store))
is_entering None h = cc
is_entering (Some (Idle store)) h = cc
is_entering (Some (Entering name lines store)) h = (name, lines, store, refl)
is_entering (Some (Running c)) h = cc

pub is_running : (d : Option Doing) → whats.Running ≡ what_of d → (c : Command) × (d ≡ Some (Running c))
is_running None h = cc
is_running (Some (Idle store)) h = cc
is_running (Some (Entering name lines store)) h = cc
is_running (Some (Running c)) h = (c, refl)

-- Sons that begin.
use Rattle.std.proofs.Common.{◌≡◌, ℕ, Bool, true, false, List, Option, Some, None, refl, ap}
use Rattle.std.specs.Prelude.{option_map, if◌then◌else◌}
use Rattle.eu_base.specs.declared.stop.Stop.TheVariants.{BadName, NotInserted}
use Rattle.eu_base.specs.declared.request.Reply.TheVariants.{Stopped}
use Rattle.eu_base.specs.Requests.{plain}
use Rattle.task_numbers.specs.declared.number.TaskNo.{TaskNo}
use Rattle.task_requests.specs.Below.task_tree.specs.declared.refusal.BeginError.{BeginError}
use Rattle.task_requests.specs.Below.task_tree.specs.Tree as tree
use Rattle.task_requests.specs.Below.units.specs.declared.unit.Compiled.{Compiled}
use Rattle.task_requests.specs.Below.system_meaning.specs.Stores.{is_name}
use Rattle.task_requests.specs.Below.system_meaning.specs.Systems.{System, Moment}
use Rattle.task_requests.specs.Below.system_meaning.specs.Ends.{number_refusal}
use Rattle.task_requests.specs.Below.system_meaning.specs.Serving.{begin_refusal, begin_with, of_task}
use Rattle.live_system.specs.Machines.{Machine}
use Rattle.live_system.specs.Steps.{BeginsRunning}
use Rattle.task_requests.specs.Served.{ServedAs}

-- where nothing is against a son of a name, nothing is in the tree
pub none_refused : (name : List ℕ) (s : System) → begin_refusal name s ≡ None → tree.refusal name s.shared.tree ≡ None
none_refused name s = by (is_name name)
  where
    none : (o : Option BeginError) → number_refusal o ≡ None → o ≡ None
    none None e = refl
    none (Some error) e = absurd (cc e)

    by : (b : Bool) → (if b then number_refusal (tree.refusal name s.shared.tree) else Some BadName) ≡ None → tree.refusal name s.shared.tree ≡ None
    by true e = none (tree.refusal name s.shared.tree) e
    by false e = absurd (cc e)

module _ (new : Machine) (name : List ℕ) (t : TaskNo) (m : Moment) where
  pub begun : (unit : Option Compiled) (son : TaskNo) → BeginsRunning unit new name t m (Some son)
      → ServedAs (begin_with None unit name t m) new (Some (of_task son))
  begun None son h = absurd (cc h.0)
  begun (Some unit) son h = (ap (λ (o : Option TaskNo). option_map (λ (u : TaskNo). plain (of_task u)) o) h.0, h.1)

  pub not_begun : (unit : Option Compiled) → BeginsRunning unit new name t m None
      → ServedAs (begin_with None unit name t m) new (Some (Stopped NotInserted))
  not_begun None h = (refl, h.1)
  not_begun (Some unit) h = absurd (cc h.0)

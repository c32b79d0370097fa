-- A task goes on, and is halted.
use Rattle.std.proofs.Common.{◌≡◌, ℕ, Option, Some, None, refl, sym, ◌∙◌, subst}
use Rattle.std.specs.Prelude.{slice_get}
use Rattle.std.specs.Option.{option_map, option_and_then}
use Rattle.task_numbers.specs.declared.number.TaskNo.{TaskNo}
use Rattle.eu_base.specs.declared.stop.Stop.{Stop}
use Rattle.eu_base.specs.declared.stop.Stop.TheVariants.{Halted}
use Rattle.elan_types.specs.Eval.{World}
use Rattle.elan_types.specs.Command.{Ending, Ended, Stopped, OutOfMarks, Asks}
use Rattle.live_system.specs.Below.units.specs.Library.{Library}
use Rattle.live_system.specs.Below.task_desk.specs.Desks.{Desk}
use Rattle.live_system.specs.Below.system_meaning.specs.Tasks.{Command, Doing, Idle, Entering, Running, Own, ending, world_of, spent, command_of, with_doing}
use Rattle.live_system.specs.Below.system_meaning.specs.Systems.{Moment, command, with_own, changed, on_system}
use Rattle.live_system.specs.Below.live_task.specs.declared.task.Went.{Went as Task}
use Rattle.live_system.specs.Below.live_task.specs.declared.task.Went.TheVariants as task
use Rattle.live_system.specs.Below.live_task.specs.Stands.{IsOver as EndsSo}
use Rattle.live_system.specs.Below.live_tasks.specs.Tasks.{Live, Stand, StandOver}
use Rattle.live_system.specs.Below.live_tasks.specs.Tasks as live_tasks
use Rattle.live_system.specs.declared.runs.Went.{Went}
use Rattle.live_system.specs.declared.runs.Went.TheVariants as went
use Rattle.live_system.specs.declared.runs.Finished.{Finished}
use Rattle.live_system.specs.Machines.{Machine, StandsAt, StandsOverAt}
use Rattle.live_packets.specs.Packets.{kinds_in}
use Rattle.live_system.specs.Steps.{WentSo, FinishedSo, IsOver, WentAs, WentOn, HaltedOver, HaltedAs}
use Rattle.live_system.proofs.Moments.{machine, IsPlace, mine, placed, asked_none, changed_as}

module _ (desk : Desk) (library : Library) (live : Live) (was : Machine) (is : machine desk library live ≡ was) (m : Moment)
    (h : StandsAt (machine desk library live) m) where
  -- the same moment, over other pages
  pub stays : (later : Live) → Stand (kinds_in library) later h.owns → StandsAt (machine desk library later) m
  stays later stand = record {
    owns = h.owns;
    is = h.is;
    machine = record { as_many = h.machine.as_many; given = h.machine.given; numbered = h.machine.numbered };
    stand = stand;
  }

  pub idles : (t : TaskNo) → IsPlace desk live t None → None ≡ command t m.system
  idles t at =
      asked_none desk library live was is m h (λ (o : Option Own). option_and_then command_of (option_map (λ (x : Own). x.doing) o)) t at None refl

  module _ (t : TaskNo) (k : ℕ) (at : IsPlace desk live t (Some k)) (later : Live) where
    -- its command is over
    over : (c : Command) (w : World) → StandOver (kinds_in library) later h.owns k c w → StandsOverAt (machine desk library later) t c w m
    over c w stand = record {
      owns = h.owns;
      is = h.is;
      machine = record { as_many = h.machine.as_many; given = h.machine.given; numbered = h.machine.numbered };
      k = k;
      at = sym (placed desk library live was is m h t (Some k) at);
      over = stand;
    }

    runs : (f : Own → Own) → ((o : Own) → (f o).packets ≡ o.packets) → Stand (kinds_in library) later (with_own k f h.owns)
        → StandsAt (machine desk library later) (on_system (changed t f) m)
    runs f same stand = changed_as desk library live was is m h f same t k at later stand

    is_over : (how : Task) (told : Went) (c : Command) (s : Option Stop) (w : World) → WentSo how told → EndsSo how c s
        → StandOver (kinds_in library) later h.owns k c w → IsOver (machine desk library later) told t c s w m
    is_over (task.Over unit code stop) (went.Over finished) c s w (u, e) (same, stopped) stand = (u ∙ same, e ∙ stopped, over c w stand)
    is_over (task.Over unit code stop) went.NotRunning c s w so ends stand = absurd so
    is_over (task.Over unit code stop) went.Marked c s w so ends stand = absurd so
    is_over (task.Over unit code stop) (went.Asks q) c s w so ends stand = absurd so
    is_over task.NotRunning told c s w so never stand = absurd never
    is_over task.Marked told c s w so never stand = absurd never
    is_over (task.Asks q) told c s w so never stand = absurd never

    went_as : (left left' : ℕ) (how : Task) (told : Went) (c : Command) (e : Ending) → WentSo how told
        → live_tasks.WentAs (kinds_in library) later h.owns k left left' how c e → WentAs e (machine desk library later) t left left' told c m
    went_as left left' how told c (Ended w) so (ends, stand) = is_over how told c None w so ends stand
    went_as left left' how told c (Stopped stop w) so (ends, stand) = is_over how told c (Some stop) w so ends stand
    went_as left left' how told c (OutOfMarks w) so (is', marks, stand) =
        (subst (λ (x : Task). WentSo x told) is' so, runs (with_doing (Running (spent left w c))) (λ o. refl) stand)
    went_as left left' how told c (Asks q w) so (is', marks, stand) =
        (subst (λ (x : Task). WentSo x told) is' so, marks, runs (with_doing (Running (spent left w c))) (λ o. refl) stand)

    went_by : (left left' : ℕ) (how : Task) (told : Went) (d : Doing) → WentSo how told
        → live_tasks.WentOn (kinds_in library) later h.owns k left left' how d
        → WentOn (command_of d) (machine desk library later) t left left' told m
    went_by left left' how told (Idle store) so (is', marks, stand) = (subst (λ (x : Task). WentSo x told) is' so, stays later stand)
    went_by left left' how told (Entering name lines store) so (is', marks, stand) = (subst (λ (x : Task). WentSo x told) is' so, stays later stand)
    went_by left left' how told (Running c) so went = went_as left left' how told c (ending c left) so went

    pub went_on : (left left' : ℕ) (how : Task) (told : Went) → WentSo how told → (o : Own) → slice_get h.owns k ≡ Some o
        → live_tasks.WentOn (kinds_in library) later h.owns k left left' how o.doing
        → WentOn (command t m.system) (machine desk library later) t left left' told m
    went_on left left' how told so o has went =
        subst
        (λ (p : Option Own). WentOn (option_and_then command_of (option_map (λ (x : Own). x.doing) p)) (machine desk library later) t left left' told m)
        (sym (mine desk library live was is m h t k at o has)) (went_by left left' how told o.doing so went)

    halted_over : (how : Task) (told : Option Finished) (c : Command) → FinishedSo how told → EndsSo how c (Some Halted)
        → StandOver (kinds_in library) later h.owns k c (world_of (ending c 0)) → HaltedOver (machine desk library later) told t c m
    halted_over (task.Over unit code stop) (Some finished) c (u, e) (same, stopped) stand = (u ∙ same, e ∙ stopped, over c (world_of (ending c 0)) stand)
    halted_over (task.Over unit code stop) None c so ends stand = absurd so
    halted_over task.NotRunning told c so never stand = absurd never
    halted_over task.Marked told c so never stand = absurd never
    halted_over (task.Asks q) told c so never stand = absurd never

    halted_by : (how : Task) (told : Option Finished) (d : Doing) → FinishedSo how told → live_tasks.HaltedAs (kinds_in library) later h.owns k how d
        → HaltedAs (command_of d) (machine desk library later) told t m
    halted_by how told (Idle store) so (is', stand) = (subst (λ (x : Task). FinishedSo x told) is' so, stays later stand)
    halted_by how told (Entering name lines store) so (is', stand) = (subst (λ (x : Task). FinishedSo x told) is' so, stays later stand)
    halted_by how told (Running c) so (ends, stand) = halted_over how told c so ends stand

    pub halted : (how : Task) (told : Option Finished) → FinishedSo how told → (o : Own) → slice_get h.owns k ≡ Some o
        → live_tasks.HaltedAs (kinds_in library) later h.owns k how o.doing → HaltedAs (command t m.system) (machine desk library later) told t m
    halted how told so o has went =
        subst
        (λ (p : Option Own). HaltedAs (option_and_then command_of (option_map (λ (x : Own). x.doing) p)) (machine desk library later) told t m)
        (sym (mine desk library live was is m h t k at o has)) (halted_by how told o.doing so went)

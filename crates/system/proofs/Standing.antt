-- A run stands for the command of each task of a system that a machine stands for.
use Rattle.std.proofs.Common.{◌≡◌, ℕ, Option, Some, None, inl, ap, ◌∙◌, subst}
use Rattle.std.specs.Option.{option_and_then}
use Rattle.std.specs.Prelude.{slice_get}
use Rattle.std.proofs.lemmas.Option.{none-some}
use Rattle.task_numbers.specs.declared.number.TaskNo.{TaskNo}
use Rattle.system.specs.Below.system_meaning.specs.Tasks.{Command, Doing, Running, Own}
use Rattle.system.specs.Below.system_meaning.specs.Systems.{System, Moment, place, own, command}
use Rattle.system.specs.Below.live_task.specs.Stands.{DoesAs}
use Rattle.system.specs.Below.live_tasks.proofs.Standing.{as_long, stands_at}
use Rattle.system.specs.Below.live_tasks.proofs.Zips.{found_other}
use Rattle.system.specs.Below.live_packets.specs.Packets.{kinds_in}
use Rattle.system.specs.Below.task_desk.specs.Desks.{system}
use Rattle.system.specs.Below.live_system.specs.Machines.{Machine, StandsAt}
use Rattle.system.proofs.Commands.{IsRun, owes_once, costs}
use Rattle.system.proofs.Slicing.{Pays, own_doing}
use Rattle.turn_laws.proofs.Beside.{runs_it}

own_place : (t : TaskNo) (s : System) (o : Own) → own t s ≡ Some o → (k : ℕ) × (slice_get s.owns k ≡ Some o)
own_place t s o has = by (place t s) has
  where
    by : (p : Option ℕ) → option_and_then (slice_get s.owns) p ≡ Some o → (k : ℕ) × (slice_get s.owns k ≡ Some o)
    by None e = absurd (none-some o e)
    by (Some k) e = (k, e)

module _ (now : Machine) (m : Moment) (h : StandsAt now m) (t : TaskNo) where
  runs : (c : Command) → command t m.system ≡ Some c → IsRun 1 c
  runs c is =
      let s = system now.desk now.library h.owns in
      let o = own_doing t s (Running c) (runs_it t s c (ap (λ (n : Moment). command t n.system) h.is ∙ is)) in
      let at = own_place t s o.0 o.1 in
      let task = found_other now.live.tasks h.owns at.0 o.0 (as_long (kinds_in now.library) now.live.pages now.live.tasks h.owns h.stand) at.1 in
      let stands = stands_at (kinds_in now.library) now.live.pages now.live.tasks h.owns at.0 task.0 o.0 h.stand task.1 at.1 in
      let does = subst (λ (d : Doing). DoesAs (kinds_in now.library o.0.packets) now.live.pages task.0 d) o.2 stands.does in
      owes_once c does.0.code does.0.run _ does.2.reaches.reaches

  -- it owes a mark at most: one that waits has paid for its first request before
  pub pays : (c : Command) → command t m.system ≡ Some c → Pays 1 c
  pays c is left q w e = inl (costs c left 1 (runs c is) q w e)

-- What a command that is over leads to.
use Rattle.std.proofs.Common.{◌≡◌, ℕ, Bool, true, false, List, Option, Some, None, refl, sym, ap, ◌∙◌, subst}
use Rattle.task_numbers.specs.declared.number.TaskNo.{TaskNo}
use Rattle.eu_base.specs.declared.stop.Stop.{Stop}
use Rattle.task_lines.specs.Below.elan_names.specs.declared.interface.Interface.{Interface}
use Rattle.task_lines.specs.Below.elan_scope.specs.declared.env.Env.{Env}
use Rattle.elan_types.specs.Eval.{World}
use Rattle.task_lines.specs.Below.units.specs.Library.{Library}
use Rattle.task_lines.specs.Below.system_meaning.specs.Tasks.{Command, Idle, Own, store_in, with_doing}
use Rattle.task_lines.specs.Below.system_meaning.specs.Systems.{System, Moment, place, changed_at, does, on_system}
use Rattle.task_lines.specs.Below.system_meaning.specs.Monitor.{Reading, is_full, tidy, rested_with, insertion_over, over_as, over}
use Rattle.task_lines.specs.Below.live_packets.specs.Packets.{insertion_told}
use Rattle.live_system.specs.Finishing.{insertion_leaves, leaves_by, finished, told_by}
use Rattle.live_system.specs.Machines.{Machine, StandsAt}

-- what a task does changes no packet
same_library : (o : Option ℕ) (f : Own → Own) (s : System) → (changed_at o f s).shared.library ≡ s.shared.library
same_library None f s = refl
same_library (Some k) f s = refl

module _ (read : Env → Bool → List ℕ → Reading) (t : TaskNo) where
  -- a task rests behind a stop, however the stop is told
  pub rested_so : (new : Machine) (o p : Option Stop) (m : Moment) → o ≡ p → StandsAt new (rested_with read p t m) → StandsAt new (rested_with read o t m)
  rested_so new o p m e h = subst (λ (o : Option Stop). StandsAt new (rested_with read o t m)) (sym e) h

module _ (read : Env → Bool → List ℕ → Reading) (t : TaskNo) (c : Command) where
  insertion_cut : (stop : Option Stop) (full : Bool) (i : Interface) (m : Moment) →
      insertion_over read stop full t c i m ≡ rested_with read (insertion_told stop full) t (on_system (tidy t) (insertion_leaves stop full t c i m))
  insertion_cut (Some stop) full i m = refl
  insertion_cut None true i m = refl
  insertion_cut None false i m = refl

  over_cut : (shown : Option Interface) (stop : Option Stop) (m : Moment) →
      over_as read shown stop t c m ≡ rested_with read (told_by shown stop m) t (on_system (tidy t) (leaves_by shown stop t c m))
  over_cut None stop m = refl
  over_cut (Some i) stop m = insertion_cut stop (is_full m.system.shared.library) i m

  told_same : (shown : Option Interface) (stop : Option Stop) (m n : Moment) → m.system.shared.library ≡ n.system.shared.library →
      told_by shown stop m ≡ told_by shown stop n
  told_same None stop m n e = refl
  told_same (Some i) stop m n e = ap (λ (l : Library). insertion_told stop (is_full l)) e

  -- all that it leads to: the stop is told, and the task rests
  pub is_over : (stop : Option Stop) (w : World) (m : Moment) →
      over read t c stop w m ≡ rested_with read (told_by c.unit.shown stop m) t (finished stop t c w m)
  is_over stop w m =
      let idle = on_system (does t (Idle (store_in w))) m in
      over_cut c.unit.shown stop idle
      ∙ ap (λ (told : Option Stop). rested_with read told t (on_system (tidy t) (leaves_by c.unit.shown stop t c idle)))
      (told_same c.unit.shown stop idle m (same_library (place t m.system) (with_doing (Idle (store_in w))) m.system))

  pub over_stands : (middle new : Machine) (stop told : Option Stop) (w : World) (m : Moment) →
      (told ≡ told_by c.unit.shown stop m) × StandsAt middle (finished stop t c w m) →
      ((m : Moment) → StandsAt middle m → StandsAt new (rested_with read told t m)) → StandsAt new (over read t c stop w m)
  over_stands middle new stop told w m h f =
      subst (λ m. StandsAt new m) (sym (is_over stop w m))
      (subst (λ (told : Option Stop). StandsAt new (rested_with read told t (finished stop t c w m))) h.0 (f (finished stop t c w m) h.1))

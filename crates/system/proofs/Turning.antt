-- The first ready task.
use Rattle.std.proofs.Common.{◌≡◌, ℕ, Bool, List, [], ◌∷◌, drop, Some, None, refl, sym, ap, ◌∙◌, subst}
use Rattle.std.specs.Prelude.{slice_get}
use Rattle.task_numbers.specs.declared.number.TaskNo.{TaskNo}
use Rattle.system.specs.Below.elan_scope.specs.declared.env.Env.{Env}
use Rattle.turn_laws.specs.Waits.{HasTurn}
use Rattle.system.specs.Below.system_meaning.specs.Systems.{Moment, on_ready, on_system}
use Rattle.system.specs.Below.system_meaning.specs.Monitor.{Reading}
use Rattle.system.specs.Below.system_meaning.specs.Turns.{turn_marks, most_evaluations, slice, turn_of}
use Rattle.system.specs.Below.live_system.specs.Machines.{Machine, StandsAt}
use Rattle.system.specs.Keeping.{TurnBegins}

module _ (read : Env → Bool → List ℕ → Reading) (new : Machine) (m : Moment) where
  -- it has its turn
  pub first_turn : (middle : Machine) (t : TaskNo) (n marks : ℕ) → n ≡ most_evaluations → marks ≡ turn_marks
      → TurnBegins m.system.shared.ready m.system
      → Some t ≡ slice_get m.system.shared.ready 0 → StandsAt middle (on_system (on_ready (drop 1)) m)
      → ((m : Moment) → HasTurn t m.system → StandsAt middle m → StandsAt new (slice read n t marks m)) → StandsAt new (turn_of read m.system.shared.ready m)
  first_turn middle t n marks most given begins is h f = by m.system.shared.ready begins is h
    where
      by : (ready : List TaskNo) → TurnBegins ready m.system → Some t ≡ slice_get ready 0 → StandsAt middle (on_system (on_ready (λ _. drop 1 ready)) m)
          → StandsAt new (turn_of read ready m)
      by [] begins e h = absurd (cc e)
      by (u ∷ rest) begins e h =
          let there = on_system (on_ready (λ _. rest)) m in
          let same : t ≡ u = cc e in
          subst (λ u. StandsAt new (slice read most_evaluations u turn_marks there)) same
          (subst (λ k. StandsAt new (slice read most_evaluations t k there)) given
          (subst (λ k. StandsAt new (slice read k t marks there)) most (f there (subst (λ v. HasTurn v there.system) (sym same) begins) h)))

  -- none is ready
  pub no_turn : None ≡ slice_get m.system.shared.ready 0 → StandsAt new (on_system (on_ready (drop 1)) m)
      → StandsAt new (turn_of read m.system.shared.ready m)
  no_turn is h = by m.system.shared.ready refl is
    where
      by : (ready : List TaskNo) → m.system.shared.ready ≡ ready → None ≡ slice_get ready 0 → StandsAt new (turn_of read ready m)
      by [] empty e = subst (λ (ready : List TaskNo). StandsAt new (on_system (on_ready (λ _. ready)) m)) (ap (drop 1) empty ∙ sym empty) h
      by (t ∷ rest) some e = absurd (cc e)

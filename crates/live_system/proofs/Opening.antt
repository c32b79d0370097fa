-- The system begins.
use Rattle.std.proofs.Common.{◌≡◌, [], ◌∷◌, refl, sym, subst}
use Rattle.live_system.specs.Below.units.specs.Library.{Library, none_live}
use Rattle.live_system.specs.Below.task_desk.specs.Desks.{Desk}
use Rattle.live_system.specs.Below.task_desk.specs.Desks as desks
use Rattle.live_system.specs.Below.system_meaning.specs.Systems.{new_own, opening, at_event}
use Rattle.live_system.specs.Below.live_tasks.specs.Tasks.{Live, Stand}
use Rattle.live_system.specs.Machines.{StandsAt}
use Rattle.live_packets.specs.Packets.{kinds_in}
use Rattle.live_system.proofs.Moments.{machine}

pub opens : (desk : Desk) (library : Library) (live : Live) → desk ≡ desks.opening → library ≡ none_live
    → Stand (kinds_in none_live) live (new_own ∷ (new_own ∷ [])) → StandsAt (machine desk library live) (at_event opening)
opens desk library live is none stand =
    subst (λ (d : Desk). StandsAt (machine d library live) (at_event opening)) (sym is)
    (subst (λ (lib : Library). StandsAt (machine desks.opening lib live) (at_event opening)) (sym none)
    (record {
      owns = new_own ∷ (new_own ∷ []);
      is = refl;
      machine = record { as_many = refl; given = (tt, (tt, tt)); numbered = tt };
      stand = stand;
    }))

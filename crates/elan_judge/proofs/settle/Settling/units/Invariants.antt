use Rattle.std.proofs.Common.{◌≡◌, drop}
use Rattle.elan_judge.specs.walks.OnTheWay.{IsOnTheWay, Holds, LevelAt, bodies_at}
use Rattle.elan_judge.proofs.settle.Settling.units.Given as goal
use Rattle.elan_judge.specs.walks.Units.{all_unit_bodies}

pub record Kept (P Q : Type 0) : Type 0 where
  pub scope : P
  pub found : Q

abbrev pub invariant-loop-unit : goal.invariant-loop-unit
invariant-loop-unit l =
    Kept (l.scope ≡ l.fn.scope)
    ((w : LevelAt) → IsOnTheWay w l.fn.self.known → Holds (bodies_at w) 0 (all_unit_bodies l.fn.scope 0 l.units)
    → IsOnTheWay w l.self.known × Holds (bodies_at w) l.number (all_unit_bodies l.fn.scope l.number (drop l.unit-index l.units)))

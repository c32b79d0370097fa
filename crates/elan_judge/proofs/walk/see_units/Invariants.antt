use Rattle.std.proofs.Common.{◌≡◌, drop}
use Rattle.elan_judge.specs.walks.Seen.{all_seen}
use Rattle.elan_judge.proofs.walk.see_units.Given as goal
use Rattle.elan_judge.specs.walks.Units.{all_unit_bodies}

pub record Kept (P Q : Type 0) : Type 0 where
  pub scope : P
  pub found : Q

abbrev pub invariant-loop-unit : goal.invariant-loop-unit
invariant-loop-unit g l =
    Kept (l.scope ≡ l.fn.scope)
    (all_seen g.B.EachBody.after l.looks l.number (all_unit_bodies l.fn.scope l.number (drop l.unit-index l.units))
    ≡ all_seen g.B.EachBody.after l.fn.looks 0 (all_unit_bodies l.fn.scope 0 l.units))

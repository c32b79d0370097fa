use Rattle.std.proofs.Common.{◌≡◌}
use Rattle.elan_judge.specs.Level.{all_refined_units}
use Rattle.elan_judge.specs.walks.OnTheWay.{IsOnTheWay, Holds, LevelAt, bodies_at}
use Rattle.elan_judge.proofs.settle.Settling.refinements.Given as goal

pub record Kept (P Q : Type 0) : Type 0 where
  pub scope : P
  pub found : Q

abbrev pub invariant-loop-place : goal.invariant-loop-place
invariant-loop-place l =
    Kept (l.scope ≡ l.fn.scope)
    ((w : LevelAt) → IsOnTheWay w l.fn.self.known → Holds (bodies_at w) l.first (all_refined_units l.fn.scope l.first l.refinements)
    → IsOnTheWay w l.self.known)

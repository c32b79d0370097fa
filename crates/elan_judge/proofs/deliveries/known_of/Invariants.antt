use Rattle.std.proofs.Common.{◌≡◌}
use Rattle.elan_judge.specs.Level.{level_bodies}
use Rattle.elan_judge.specs.Refinements.{known_after}
use Rattle.elan_judge.specs.walks.OnTheWay.{AtMost, LevelAt, IsOnTheWay}
use Rattle.elan_judge.proofs.deliveries.known_of.Given as goal

pub record Kept (P Q R : Type 0) : Type 0 where
  pub scope : P
  pub way : Q
  pub least : R

abbrev pub invariant-loop : goal.invariant-loop
invariant-loop l =
    Kept (l.scope ≡ l.fn.scope) ((w : LevelAt) → w.scope ≡ l.fn.scope → w.level ≡ l.level → IsOnTheWay w l.known)
    (AtMost (known_after l.counter l.fn.scope.headings (level_bodies l.fn.scope l.level)) l.known)

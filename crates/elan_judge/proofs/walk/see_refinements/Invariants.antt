use Rattle.std.proofs.Common.{◌≡◌, drop}
use Rattle.elan_judge.specs.Level.{all_refined_units}
use Rattle.elan_judge.specs.walks.Seen.{all_seen}
use Rattle.elan_judge.proofs.walk.see_refinements.Given as goal

pub record Kept (P Q : Type 0) : Type 0 where
  pub scope : P
  pub found : Q

abbrev pub invariant-loop-refinement : goal.invariant-loop-refinement
invariant-loop-refinement g l =
    Kept (l.scope ≡ l.fn.scope)
    (all_seen g.B.EachBody.after l.looks l.number (all_refined_units l.fn.scope l.number (drop l.refinement-index l.refinements))
    ≡ all_seen g.B.EachBody.after l.fn.looks l.first (all_refined_units l.fn.scope l.first l.refinements))

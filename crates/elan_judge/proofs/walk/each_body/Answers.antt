use Rattle.std.proofs.Common.{List, ap, ◌∙◌}
use Rattle.elan_tree.specs.declared.tree.Refinement.{Refinement}
use Rattle.elan_tree.specs.declared.tree.LevelUnit.{LevelUnit}
use Rattle.type_names.specs.Bodies.{bodies_of_units}
use Rattle.elan_judge.specs.Level.{all_refined_units}
use Rattle.elan_judge.specs.walks.Seen.{all_seen}
use Rattle.elan_judge.proofs.Steps.{level_found}
use Rattle.elan_judge.proofs.walk.each_body.Goals as goal
use Rattle.elan_judge.specs.walks.Units.{all_unit_bodies}

pub returns-clause-found : goal.returns-clause-found
returns-clause-found g c =
    let s = c.args.scope.now in
    level_found g.B.EachBody.after c.args.level.now s c.see_units.new.scope c.in_ok-first.first c.args.looks.now c.see_units.new.looks
    c.see_refinements.new.looks
    c.in_ok-see_units.ensures.kept
    (c.in_ok-first.ensures ∙ ap bodies_of_units c.as_slice-units.ensures)
    (c.in_ok-see_units.ensures.found
    ∙ ap (λ (us : List LevelUnit). all_seen g.B.EachBody.after c.args.looks.now 0 (all_unit_bodies s 0 us)) c.as_slice-units.ensures)
    (c.in_ok-see_refinements.ensures.found
    ∙ ap (λ (rs : List Refinement).
    all_seen g.B.EachBody.after c.see_units.new.looks c.in_ok-first.first (all_refined_units c.see_units.new.scope c.in_ok-first.first rs))
    c.as_slice-refinements.ensures)

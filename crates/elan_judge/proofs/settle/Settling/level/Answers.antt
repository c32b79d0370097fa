use Rattle.std.proofs.Common.{List, ap, sym, subst, ◌∙◌}
use Rattle.elan_tree.specs.declared.tree.Level.{Level}
use Rattle.elan_tree.specs.declared.tree.LevelUnit.{LevelUnit}
use Rattle.elan_tree.specs.declared.tree.Refinement.{Refinement}
use Rattle.type_names.specs.Bodies.{bodies_of_units}
use Rattle.elan_judge.specs.Level.{all_refined_units}
use Rattle.elan_judge.specs.walks.OnTheWay.{Holds, bodies_at}
use Rattle.elan_judge.proofs.Settling.{all_units_here, refinements_here}
use Rattle.elan_judge.proofs.settle.Settling.level.Goals as goal
use Rattle.elan_judge.specs.walks.Units.{all_unit_bodies}

pub returns-clause-found : goal.returns-clause-found
returns-clause-found c = λ w es el s.
    let z = c.units.new.scope in
    let n = c.in_ok-first.first in
    let units = c.as_slice-units.ensures ∙ ap (λ (l : Level). l.units) (sym el) in
    c.refinements.ensures.found w
    (c.in_ok-units.ensures.found w s
    (subst (λ (vs : List LevelUnit). Holds (bodies_at w) 0 (all_unit_bodies c.args.scope.now 0 vs)) (sym units)
    (all_units_here w c.args.scope.now (sym es))))
    (subst (λ (rs : List Refinement). Holds (bodies_at w) n (all_refined_units z n rs))
    (sym (c.as_slice.ensures ∙ ap (λ (l : Level). l.refinements) (sym el)))
    (refinements_here w z n (c.in_ok-units.ensures.kept ∙ sym es) (c.in_ok-first.ensures ∙ ap bodies_of_units units)))

use Rattle.std.proofs.Common.{List, ℕ, map, subst}
use Rattle.elan_types.specs.declared.core_phrase.Scope.{Scope as Owner}
use Rattle.elan_tree.specs.declared.phrase.Unit.{Unit as Statement}
use Rattle.elan_scope.specs.declared.delivery.Delivery.TheVariants.{Open}
use Rattle.elan_scope.specs.Phrase as form
use Rattle.elan_scope.specs.Phrase.{leaf, pair}
use Rattle.elan_scope.specs.Answer.{Is}
use Rattle.elan_check.specs.Below.elan_rules.specs.Meaning.{judged}
use Rattle.elan_judge.specs.Shape as shape
use Rattle.elan_judge.specs.Level as l
use Rattle.elan_check.proofs.routine.judge_refinement.Goals as goal

pub returns-clause-meaning : goal.returns-clause-meaning
returns-clause-meaning c =
    let k = c.args.known.now in
    let s = c.args.scope.now in
    let r = c.args.refinement.now in
    let inner = l.refinement_scope s c.args.number in
    let name = subst (λ (x : List ℕ). Is c.declared-name.result (judged k (leaf r.name.at (form.declares s x)))) c.as_slice.ensures c.declared-name.ensures in
    let units =
    subst (λ (us : List Statement). Is c.judge_units-units.result (judged k (shape.units Open (map (shape.unit inner) us)))) c.as_slice-2.ensures
    c.judge_units-units.ensures in
    subst (λ (o : Owner). Is c.refinement_phrase.result (judged k (pair 0 (form.refinement o) (l.declares s r.name) (l.refined_units s c.args.number r))))
    c.in_ok-owner.ensures (c.refinement_phrase.ensures k (l.declares s r.name) (l.refined_units s c.args.number r) name units)

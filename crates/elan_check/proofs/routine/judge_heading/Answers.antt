use Rattle.std.proofs.Common.{List, Option, option_map, map, ap, ◌∙◌}
use Rattle.elan_types.specs.declared.elan_type.ElanType.{ElanType}
use Rattle.elan_tree.specs.declared.phrase.Unit.{Unit as Statement}
use Rattle.type_names.specs.Bodies.{parameters, result}
use Rattle.elan_judge.specs.Level.{is_missing}
use Rattle.elan_judge.specs.Shape as shape
use Rattle.elan_check.proofs.Routines.{heading_is}
use Rattle.elan_check.proofs.routine.judge_heading.Goals as goal

pub returns : goal.returns
returns c = λ k s.
    let of = c.args.of in
    let z = c.args.scope.now in
    let is = c.as_ref-delivered.ensures.value ∙ c.in_ok-of_type.ensures in
    heading_is k z of.at of.sort of.name.now (parameters z.types of.formals.now) c.as_slice-2.result.now (result z.types of.result.now)
    (option_map (λ t. t.now) c.as_ref-delivered.result)
    (is_missing (result z.types of.result.now) (map (shape.unit s) of.body.now.units)) c.is_missing-missing.result c.heading.result
    (c.as_slice-2.ensures ∙ c.in_ok-parameters.ensures)
    is
    (c.is_missing-missing.ensures s ∙ ap (λ (o : Option ElanType). is_missing o (map (shape.unit s) c.as_slice.result.now)) is
    ∙ ap (λ (us : List Statement). is_missing (result z.types of.result.now) (map (shape.unit s) us)) c.as_slice.ensures)
    c.heading.ensures

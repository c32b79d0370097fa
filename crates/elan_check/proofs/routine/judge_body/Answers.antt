use Rattle.std.proofs.Common.{◌∙◌, ap}
use Rattle.elan_scope.specs.Known.{delivered}
use Rattle.type_names.specs.Bodies.{frame, result}
use Rattle.elan_judge.specs.walks.Steps.{wanted}
use Rattle.elan_check.proofs.Routines.{body_is}
use Rattle.elan_check.proofs.routine.judge_body.Goals as goal

pub returns : goal.returns
returns c =
    let of = c.args.of in
    let s = c.args.scope.now in
    let is = c.in_ok-of_type.ensures in
    body_is c.args.known.now s (frame s.types of.formals.now of.body.now) c.in-Ok.owner (result s.types of.result.now) c.in_ok-of_type.of_type
    (wanted c.of-wanted.result)
    of.body.now.units c.as_slice.result.now c.in_ok-meant.meant c.body.result c.as_slice.ensures
    (c.of-wanted.ensures ∙ ap delivered (c.as_ref.ensures.value ∙ is)) c.in_ok-meant.ensures c.in-Ok.ensures is c.body.ensures

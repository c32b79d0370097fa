use Rattle.std.proofs.Common.{map, sym, ◌∙◌}
use Rattle.elan_judge.specs.Shape as shape
use Rattle.elan_judge.specs.walks.Steps.{wanted}
use Rattle.elan_judge.proofs.Calls.{units_called}
use Rattle.elan_judge.proofs.Steps.{calls_found}
use Rattle.elan_judge.proofs.deliveries.CallsEachBody.body.Goals as goal

pub returns : goal.returns
returns c =
    let s = c.args.scope.now in
    let us = c.args.units.now in
    calls_found c.push-2.result c.args.self.now (shape.units (wanted c.args._wanted) (map (shape.unit s) us)) c.in_ok-called_in.field-0
    c.in_ok-called_in_last.field-0 c.push.new.self c.push-2.new.self
    (c.in_ok-called_in.ensures ∙ sym (units_called s (wanted c.args._wanted) us)) (c.in_ok-called_in_last.ensures (wanted c.args._wanted)) c.in_ok-push.ensures.ok
    c.push-2.ensures.ok

use Rattle.std.proofs.Common.{map, true, false, Some, refl}
use Rattle.elan_scope.specs.declared.delivery.Delivery.TheVariants.{Nothing}
use Rattle.elan_judge.specs.Shape as shape
use Rattle.elan_judge.specs.walks.Steps.{wanted}
use Rattle.elan_judge.proofs.Asked.{asked_none, asked_some}
use Rattle.elan_judge.proofs.role.asked.Goals as goal

pub returns-then-is_empty : goal.returns-then-is_empty
returns-then-is_empty c = λ s. asked_none (wanted c.args.wanted) (shape.unit s c.args.unit.now) (map (shape.unit s) c.args.rest.now) (c.if-is_empty.ensures s)

pub returns-then-all_empty : goal.returns-then-all_empty
returns-then-all_empty c = λ s.
    asked_some (wanted c.args.wanted) (shape.unit s c.args.unit.now) (map (shape.unit s) c.args.rest.now) true (Some (wanted c.args.wanted)) (c.if-is_empty.ensures s)
    (c.if-all_empty.ensures s) refl

pub returns-else-all_empty : goal.returns-else-all_empty
returns-else-all_empty c = λ s.
    asked_some (wanted c.args.wanted) (shape.unit s c.args.unit.now) (map (shape.unit s) c.args.rest.now) false (Some Nothing) (c.if-is_empty.ensures s)
    (c.if-all_empty.ensures s) refl

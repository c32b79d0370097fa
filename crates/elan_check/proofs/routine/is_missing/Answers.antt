use Rattle.std.proofs.Common.{map, Bool, Option, option_map, Bor, not, ◌&&◌, sym, ap, ◌∙◌}
use Rattle.elan_types.specs.declared.elan_type.ElanType.{ElanType}
use Rattle.elan_judge.specs.Shape as shape
use Rattle.elan_judge.specs.Level.{is_missing}
use Rattle.elan_check.proofs.routine.is_missing.Goals as goal

pub returns-then-not-is_open : goal.returns-then-not-is_open
returns-then-not-is_open c =
    λ s. c.all_empty.ensures s
    ∙ ap (λ (b : Bool). not b && shape.all_empty (map (shape.unit s) c.args.units.now)) (sym c.if-not-is_open.true ∙ c.is_open.ensures)
    ∙ ap (λ (o : Option (Bor ElanType)). is_missing (option_map (λ t. t.now) o) (map (shape.unit s) c.args.units.now)) (sym c.in-Some.is)

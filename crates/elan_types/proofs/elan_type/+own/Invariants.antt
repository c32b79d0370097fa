use Rattle.std.proofs.Common.{◌≡◌, map, drop}
use Rattle.std.specs.List.{list_any}
use Rattle.elan_types.specs.Types.{field_has_own}
use Rattle.elan_types.proofs.elan_type.+own.Given as goal

abbrev pub invariant-any_has_own-loop-field : goal.invariant-any_has_own-loop-field
invariant-any_has_own-loop-field l = list_any (λ b. b) (map field_has_own l.fn.fields) ≡ list_any (λ b. b) (map field_has_own (drop l.field-index l.fields))

use Rattle.std.proofs.Common.{◌≡◌, map, drop}
use Rattle.elan_types.specs.Types.{are_same, same_field}
use Rattle.elan_types.proofs.elan_type.+same.Given as goal

abbrev pub invariant-same_fields-loop-field : goal.invariant-same_fields-loop-field
invariant-same_fields-loop-field l = are_same (map same_field l.fn.fields) l.fn.others ≡ are_same (map same_field (drop l.field-index l.fields)) l.rest

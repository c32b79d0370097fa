use Rattle.std.proofs.Common.{◌≡◌, drop}
use Rattle.elan_types.specs.Types.{field_from}
use Rattle.elan_types.proofs.elan_type.field_named.Given as goal

abbrev pub invariant-loop-field : goal.invariant-loop-field
invariant-loop-field l = field_from 0 l.fn.fields l.fn.name ≡ field_from l.before (drop l.field-index l.fields) l.fn.name

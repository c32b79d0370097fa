use Rattle.std.proofs.Common.{◌≡◌, map, take}
use Rattle.elan_types.specs.Types.{field_shape}
use Rattle.elan_types.proofs.elan_type.+shapes.Given as goal

abbrev pub invariant-field_shapes-loop-field : goal.invariant-field_shapes-loop-field
invariant-field_shapes-loop-field l = l.shapes ≡ map field_shape (take l.field-index l.fields)

use Rattle.std.proofs.Common.{◌≡◌, ◌+◌, ◌<◌, map, drop, sum}
use Rattle.elan_types.specs.Types.{cells_of_field}
use Rattle.elan_types.proofs.elan_type.+cells.Given as goal

abbrev pub invariant-field_cells-loop-field : goal.invariant-field_cells-loop-field
invariant-field_cells-loop-field l =
    (l.total < 65536) × (l.total + sum (map cells_of_field (drop l.field-index l.fields)) ≡ sum (map cells_of_field l.fn.fields))

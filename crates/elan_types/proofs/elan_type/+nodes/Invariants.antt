use Rattle.std.proofs.Common.{◌≡◌, ◌+◌, ◌<◌, map, drop, sum}
use Rattle.elan_types.specs.Types.{nodes_of_field}
use Rattle.elan_types.proofs.elan_type.+nodes.Given as goal

abbrev pub invariant-field_nodes-loop-field : goal.invariant-field_nodes-loop-field
invariant-field_nodes-loop-field l =
    (l.total < 65536) × (l.total + sum (map nodes_of_field (drop l.field-index l.fields)) ≡ sum (map nodes_of_field l.fn.fields))

use Rattle.std.proofs.Common.{◌≡◌, ◌++◌, map, drop}
use Rattle.std.specs.Prelude.{flat_map}
use Rattle.type_names.specs.Faults.{named_in_field}
use Rattle.type_names.specs.walks.Further.{numbers_at}
use Rattle.type_names.proofs.calls.+naming.Given as goal

abbrev pub invariant-add_named_in_fields-loop-field : goal.invariant-add_named_in_fields-loop-field
invariant-add_named_in_fields-loop-field l =
    l.numbers ++ numbers_at l.names (flat_map (λ xs. xs) (map named_in_field (drop l.field-index l.fields)))
    ≡ l.fn.numbers ++ numbers_at l.names (flat_map (λ xs. xs) (map named_in_field l.fields))

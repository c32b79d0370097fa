use Rattle.std.proofs.Common.{◌≡◌, drop}
use Rattle.std.specs.List.{list_any}
use Rattle.elan_types.specs.Types.{is_open}
use Rattle.type_names.proofs.fields.any_open.Given as goal

abbrev pub invariant-loop-field : goal.invariant-loop-field
invariant-loop-field l = list_any (λ f. is_open f.of) (drop l.field-index l.fields) ≡ list_any (λ f. is_open f.of) l.fields

use Rattle.std.proofs.Common.{◌≡◌, drop}
use Rattle.std.specs.List.{list_any}
use Rattle.std.specs.Str.{bytes_eq}
use Rattle.type_names.specs.walks.Judged.{texts}
use Rattle.type_names.proofs.fields.is_among.Given as goal

abbrev pub invariant-loop-field : goal.invariant-loop-field
invariant-loop-field l =
    list_any (λ x. bytes_eq x l.name) (texts (drop l.field-index l.fields)) ≡ list_any (λ x. bytes_eq x l.name) (texts l.fields)

use Rattle.std.proofs.Common.{◌≡◌, drop}
use Rattle.std.specs.List.{list_any}
use Rattle.std.specs.Str.{bytes_eq}
use Rattle.type_names.proofs.visible.is_refinement.Given as goal

abbrev pub invariant-loop-refinement : goal.invariant-loop-refinement
invariant-loop-refinement l =
    list_any (λ r. bytes_eq r.name.text l.name) (drop l.refinement-index l.refinements) ≡ list_any (λ r. bytes_eq r.name.text l.name) l.refinements

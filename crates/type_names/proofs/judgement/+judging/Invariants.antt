use Rattle.std.proofs.Common.{◌≡◌, [], ◌++◌, map, drop}
use Rattle.std.specs.Prelude.{flat_map}
use Rattle.type_names.specs.Faults.{judged_fields, first_fault, fields_faults}
use Rattle.type_names.specs.walks.Seen.{earlier, names_seen}
use Rattle.type_names.specs.walks.Judged.{texts}
use Rattle.type_names.proofs.judgement.+judging.Given as goal

abbrev pub invariant-fields_judged-loop-field : goal.invariant-fields_judged-loop-field
invariant-fields_judged-loop-field l =
    let judge = judged_fields (names_seen l.visible) l.visible.refinements.now in
    (l.list ++ flat_map (λ f. f.fields) (map judge (drop l.field-index l.fields)) ≡ flat_map (λ f. f.fields) (map judge l.fields))
    × (earlier l.first (first_fault (fields_faults (texts l.list) (map judge (drop l.field-index l.fields))))
    ≡ first_fault (fields_faults [] (map judge l.fields)))

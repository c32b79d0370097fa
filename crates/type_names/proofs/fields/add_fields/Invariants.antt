use Rattle.std.proofs.Common.{◌≡◌, ◌++◌, drop}
use Rattle.type_names.specs.Faults.{first_fault, doubled_names}
use Rattle.type_names.specs.walks.Seen.{earlier}
use Rattle.type_names.specs.walks.Judged.{texts, named_alike}
use Rattle.type_names.proofs.fields.add_fields.Given as goal

abbrev pub invariant-loop-name : goal.invariant-loop-name
invariant-loop-name l =
    (l.list ++ named_alike l.of (drop l.name-index l.names) ≡ l.fn.list ++ named_alike l.of l.names)
    × (earlier l.first (first_fault (doubled_names (texts l.list) (drop l.name-index l.names)))
    ≡ first_fault (doubled_names (texts l.fn.list) l.names))

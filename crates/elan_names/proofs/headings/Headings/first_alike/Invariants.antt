use Rattle.std.proofs.Common.{◌≡◌, drop}
use Rattle.elan_names.specs.Callables.{first_heading, is_alike, types_of}
use Rattle.elan_names.specs.walks.Numbers.{first_among}
use Rattle.elan_names.proofs.headings.Headings.first_alike.Given as goal

abbrev pub invariant-loop-number : goal.invariant-loop-number
invariant-loop-number l =
    first_among (is_alike l.sort l.name (types_of l.parameters)) l.self (drop l.number-index l.number-items)
    ≡ first_heading (is_alike l.sort l.name (types_of l.parameters)) l.self

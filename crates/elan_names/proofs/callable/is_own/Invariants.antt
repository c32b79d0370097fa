use Rattle.std.proofs.Common.{◌≡◌, drop}
use Rattle.elan_names.specs.Callables.{first, has_as_many, own_callables}
use Rattle.elan_names.specs.walks.Numbers.{callables_among}
use Rattle.elan_names.proofs.callable.is_own.Given as goal

abbrev pub invariant-loop-number : goal.invariant-loop-number
invariant-loop-number l =
    first (has_as_many l.sort l.name l.count) (callables_among l.before l.headings (drop l.number-index l.number-items))
    ≡ first (has_as_many l.sort l.name l.count) (own_callables l.before l.headings)

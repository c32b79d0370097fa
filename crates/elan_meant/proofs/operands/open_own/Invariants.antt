use Rattle.std.proofs.Common.{◌≡◌, drop}
use Rattle.elan_scope.specs.Scope.{first, own_callables}
use Rattle.elan_meant.specs.Below.elan_names.specs.walks.Numbers.{callables_among}
use Rattle.elan_meant.specs.Operands.{may_take}
use Rattle.elan_meant.proofs.operands.open_own.Given as goal

abbrev pub invariant-loop-number : goal.invariant-loop-number
invariant-loop-number l =
    first (may_take l.sort l.name l.operands) (callables_among l.before l.headings (drop l.number-index l.number-items))
    ≡ first (may_take l.sort l.name l.operands) (own_callables l.before l.headings)

use Rattle.std.proofs.Common.{◌≡◌, false, ◌++◌, drop}
use Rattle.elan_walk.specs.Definitions.{parameter_definitions}
use Rattle.elan_walk.proofs.definition.of_formals.Given as goal

abbrev pub invariant-loop-formal : goal.invariant-loop-formal
invariant-loop-formal l =
    l.out.wanted ≡ false
    → (l.fn.out.wanted ≡ false)
    × (l.out.list ++ parameter_definitions (drop l.formal-index l.formals) ≡ l.fn.out.list ++ parameter_definitions l.formals)

use Rattle.std.proofs.Common.{◌≡◌, ◌++◌, drop}
use Rattle.elan_names.specs.declared.entry.Denotes.TheVariants as denotes
use Rattle.elan_scope.specs.Scope.{all_held}
use Rattle.type_names.specs.Bodies.{named_as}
use Rattle.type_names.proofs.bodies.for_each.Given as goal

abbrev pub invariant-loop-name : goal.invariant-loop-name
invariant-loop-name l =
    l.out ++ all_held (named_as (drop l._name-index l.names) (denotes.Parameter l.parameter))
    ≡ l.fn.out ++ all_held (named_as l.names (denotes.Parameter l.parameter))

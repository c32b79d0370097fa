use Rattle.std.proofs.Common.{◌≡◌, ◌++◌, drop}
use Rattle.elan_scope.specs.Scope.{variables_of}
use Rattle.type_names.proofs.bodies.held_kinds.Given as goal

abbrev pub invariant-loop-entry : goal.invariant-loop-entry
invariant-loop-entry l = l.kinds ++ variables_of (drop l.entry-index l.names) ≡ variables_of l.names

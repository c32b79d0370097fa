use Rattle.std.proofs.Common.{◌≡◌, ◌++◌, drop}
use Rattle.std.specs.Prelude.{filter}
use Rattle.elan_scope.specs.Shown.{shows}
use Rattle.elan_names.specs.Interfaces.{exports}
use Rattle.elan_scope.proofs.env.add_shown.Given as goal

abbrev pub invariant-loop-named : goal.invariant-loop-named
invariant-loop-named l =
    l.out ++ filter (λ t. exports l.interface t.name) (drop l.named-index l.interface.types) ≡ l.fn.out ++ shows l.interface

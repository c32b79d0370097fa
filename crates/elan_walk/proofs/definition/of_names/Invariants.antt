use Rattle.std.proofs.Common.{◌≡◌, false, ◌++◌, drop}
use Rattle.std.specs.Prelude.{flat_map}
use Rattle.elan_walk.specs.Definitions.{other}
use Rattle.elan_walk.proofs.definition.of_names.Given as goal

abbrev pub invariant-loop-name : goal.invariant-loop-name
invariant-loop-name l =
    l.out.wanted ≡ false
    → (l.fn.out.wanted ≡ false)
    × (l.out.list ++ flat_map other (drop l.name-index l.names) ≡ l.fn.out.list ++ flat_map other l.names)

use Rattle.std.proofs.Common.{◌≡◌, ◌++◌, false, drop}
use Rattle.elan_names.specs.declared.entry.Denotes.TheVariants as denotes
use Rattle.type_names.specs.Bodies.{named_as}
use Rattle.type_names.proofs.bodies.named_as.Given as goal

abbrev pub invariant-loop-name : goal.invariant-loop-name
invariant-loop-name l =
    l.out.wanted ≡ false
    → (l.fn.out.wanted ≡ false)
    × (l.out.entries ++ named_as (drop l.name-index l.names) (denotes.Parameter l.parameter) ≡ l.fn.out.entries ++ named_as l.names (denotes.Parameter l.parameter))
    × (l.out.here.now ≡ l.fn.out.here.now)
    × (l.out.around.now ≡ l.fn.out.around.now)

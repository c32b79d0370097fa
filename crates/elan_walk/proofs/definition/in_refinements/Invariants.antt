use Rattle.std.proofs.Common.{◌≡◌, false, ◌++◌, drop}
use Rattle.elan_walk.specs.Definitions.{in_refinements}
use Rattle.elan_walk.proofs.definition.in_refinements.Given as goal

abbrev pub invariant-loop-refinement : goal.invariant-loop-refinement
invariant-loop-refinement l =
    l.out.wanted ≡ false
    → (l.fn.out.wanted ≡ false)
    × (l.out.list ++ in_refinements (drop l.refinement-index l.refinements) ≡ l.fn.out.list ++ in_refinements l.refinements)

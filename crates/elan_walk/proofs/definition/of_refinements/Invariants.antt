use Rattle.std.proofs.Common.{◌≡◌, false, ◌++◌, drop}
use Rattle.elan_walk.specs.Definitions.{refinement_definitions}
use Rattle.elan_walk.proofs.definition.of_refinements.Given as goal

abbrev pub invariant-loop-refinement : goal.invariant-loop-refinement
invariant-loop-refinement l =
    l.out.wanted ≡ false
    → (l.fn.out.wanted ≡ false)
    × (l.out.list ++ refinement_definitions (drop l.refinement-index l.refinements) ≡ l.fn.out.list ++ refinement_definitions l.refinements)

use Rattle.std.proofs.Common.{◌≡◌, ◌++◌, false, drop}
use Rattle.type_names.specs.Bodies.{refinement_names}
use Rattle.type_names.specs.walks.LevelSeen.{visible}
use Rattle.type_names.proofs.bodies.refinement_names.Given as goal

abbrev pub invariant-loop-refinement : goal.invariant-loop-refinement
invariant-loop-refinement l =
    l.out.wanted ≡ false
    → (l.fn.out.wanted ≡ false)
    × (l.out.entries ++ refinement_names (visible l.fn.out) (drop l.refinement-index l.refinements) ≡ l.fn.out.entries ++ refinement_names (visible l.fn.out) l.refinements)
    × (l.out.here.now ≡ l.fn.out.here.now)
    × (l.out.around.now ≡ l.fn.out.around.now)

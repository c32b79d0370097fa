use Rattle.std.proofs.Common.{◌≡◌, ◌++◌, drop}
use Rattle.type_names.specs.Bodies.{refinement_headings}
use Rattle.type_names.proofs.heading.refinement_headings.Given as goal

abbrev pub invariant-loop-refinement : goal.invariant-loop-refinement
invariant-loop-refinement l = l.out ++ refinement_headings l.home (drop l.refinement-index l.refinements) ≡ l.fn.out ++ refinement_headings l.home l.refinements

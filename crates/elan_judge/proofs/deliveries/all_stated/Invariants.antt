use Rattle.std.proofs.Common.{◌≡◌, ◌++◌, map, drop}
use Rattle.elan_judge.specs.Refinements.{stated}
use Rattle.elan_judge.proofs.deliveries.all_stated.Given as goal

abbrev pub invariant-loop-heading : goal.invariant-loop-heading
invariant-loop-heading l = l.deliveries ++ map (λ h. stated h.what) (drop l.heading-index l.headings) ≡ map (λ h. stated h.what) l.headings

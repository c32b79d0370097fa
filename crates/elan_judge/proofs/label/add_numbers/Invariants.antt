use Rattle.std.proofs.Common.{◌≡◌, ◌++◌, drop}
use Rattle.elan_judge.specs.walks.Steps.{numbers}
use Rattle.elan_judge.proofs.label.add_numbers.Given as goal

abbrev pub invariant-loop-label : goal.invariant-loop-label
invariant-loop-label l = l.out ++ numbers l.scope (drop l.label-index l.labels) ≡ l.fn.out ++ numbers l.scope l.labels

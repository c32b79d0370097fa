use Rattle.std.proofs.Common.{◌≡◌, drop}
use Rattle.elan_rules.specs.walks.ChoiceSteps.{is_in}
use Rattle.elan_rules.proofs.selection.is_in.Given as goal

abbrev pub invariant-loop-label : goal.invariant-loop-label
invariant-loop-label l = is_in (drop l.label-index l.labels) l.number ≡ is_in l.labels l.number

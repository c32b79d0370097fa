use Rattle.std.proofs.Common.{◌≡◌, length, drop}
use Rattle.elan_names.specs.walks.Seen.{parameters}
use Rattle.elan_meant.specs.Verdict.{Tells}
use Rattle.value_rules.specs.Calls.{given}
use Rattle.value_rules.proofs.call.given.Given as goal

abbrev pub invariant-loop-operand : goal.invariant-loop-operand
invariant-loop-operand l =
    (parameters l.rest ≡ drop (length l.yielded) (parameters l.parameters)) × Tells l.actuals (given l.at (parameters l.parameters) l.yielded)

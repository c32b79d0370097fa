use Rattle.std.proofs.Common.{◌≡◌, IfOk, List}
use Rattle.elan_types.specs.declared.core_phrase.ValuePhrase.{ValuePhrase}
use Rattle.value_rules.specs.Calls.{values_in}
use Rattle.value_rules.proofs.call.values_in.Given as goal

abbrev pub invariant-loop-actual : goal.invariant-loop-actual
invariant-loop-actual l = IfOk l.values (λ (v : List ValuePhrase). v ≡ values_in l.yielded)

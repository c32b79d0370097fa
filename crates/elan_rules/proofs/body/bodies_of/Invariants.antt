use Rattle.std.proofs.Common.{◌≡◌, IfOk, List}
use Rattle.elan_types.specs.declared.core_phrase.Body.{Body}
use Rattle.elan_rules.specs.Units.{bodies_of}
use Rattle.elan_rules.proofs.body.bodies_of.Given as goal

abbrev pub invariant-loop-part : goal.invariant-loop-part
invariant-loop-part l = IfOk l.bodies (λ (b : List Body). b ≡ bodies_of l.yielded)

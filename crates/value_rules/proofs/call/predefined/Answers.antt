use native.Mathlib.Omega.{arith as r0_arith}
use Rattle.std.proofs.lemmas.Grind.{common_steps as r1_common_steps}
use Rattle.std.proofs.Common.{None, sym, subst}
use Rattle.elan_names.specs.Callees as callees
use Rattle.elan_names.specs.declared.predefined.Predefined.{Predefined}
use Rattle.elan_names.specs.Predefined.{result}
use Rattle.elan_meant.specs.Verdict.{Tells}
use Rattle.value_rules.specs.Calls.{performed}
use Rattle.value_rules.proofs.call.predefined.Goals as goal

pub returns-in-Change : goal.returns-in-Change
returns-in-Change c =
    subst (λ (p : Predefined). Tells c.changed.result (performed c.args.at (callees.Predefined p) (result p) c.args.actuals)) (sym c.in-Change.is)
    (c.changed.ensures None)

pub returns-in-ErrorStop : goal.returns-in-ErrorStop
returns-in-ErrorStop c =
    subst (λ (p : Predefined). Tells c.stopped.result (performed c.args.at (callees.Predefined p) (result p) c.args.actuals)) (sym c.in-ErrorStop.is)
    (c.stopped.ensures None)

pub returns-in-Operation : goal.returns-in-Operation
returns-in-Operation c = grind (r0_arith, r1_common_steps) steps 2000000

pub returns-in-Request : goal.returns-in-Request
returns-in-Request c = grind (r0_arith, r1_common_steps) steps 2000000

pub returns-in-OnSpaces : goal.returns-in-OnSpaces
returns-in-OnSpaces c = grind (r0_arith, r1_common_steps) steps 2000000

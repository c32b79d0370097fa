use native.Mathlib.Omega.{arith as r0_arith}
use Rattle.std.proofs.lemmas.Grind.{common_steps as r1_common_steps}
use Rattle.value_rules.proofs.call.is_begin.Goals as rung_goal

pub returns-then-count-eq3 : rung_goal.returns-then-count-eq3
returns-then-count-eq3 c = grind (r0_arith, r1_common_steps) steps 2000000

pub returns-else-count-eq3 : rung_goal.returns-else-count-eq3
returns-else-count-eq3 c = grind (r0_arith, r1_common_steps) steps 2000000

pub returns-in-Operator : rung_goal.returns-in-Operator
returns-in-Operator c = grind (r0_arith, r1_common_steps) steps 2000000

use native.Mathlib.Omega.{arith as r0_arith}
use Rattle.std.proofs.lemmas.Grind.{common_steps as r1_common_steps}
use Rattle.value_rules.proofs.leave.leave_as.Goals as rung_goal

pub returns-in_ok-action : rung_goal.returns-in_ok-action
returns-in_ok-action c = grind (r0_arith, r1_common_steps) steps 2000000

pub returns-else-agrees : rung_goal.returns-else-agrees
returns-else-agrees c = grind (r0_arith, r1_common_steps) steps 2000000

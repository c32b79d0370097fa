use native.Mathlib.Omega.{arith as r0_arith}
use Rattle.std.proofs.lemmas.Grind.{common_steps as r1_common_steps}
use Rattle.value_rules.proofs.leave.leave_of.Goals as rung_goal

pub returns-in-Err : rung_goal.returns-in-Err
returns-in-Err c = grind (r0_arith, r1_common_steps) steps 2000000

pub returns-in_ok-value-in-Ok : rung_goal.returns-in_ok-value-in-Ok
returns-in_ok-value-in-Ok c = grind (r0_arith, r1_common_steps) steps 2000000

pub returns-in-None : rung_goal.returns-in-None
returns-in-None c = grind (r0_arith, r1_common_steps) steps 2000000

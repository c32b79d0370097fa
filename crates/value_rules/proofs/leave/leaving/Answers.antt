use native.Mathlib.Omega.{arith as r0_arith}
use Rattle.std.proofs.lemmas.Grind.{common_steps as r1_common_steps}
use Rattle.value_rules.proofs.leave.leaving.Goals as rung_goal

pub returns-then-delivers_open : rung_goal.returns-then-delivers_open
returns-then-delivers_open c = grind (r0_arith, r1_common_steps) steps 2000000

pub returns-in-None : rung_goal.returns-in-None
returns-in-None c = grind (r0_arith, r1_common_steps) steps 2000000

pub returns-else-delivers_open : rung_goal.returns-else-delivers_open
returns-else-delivers_open c = grind (r0_arith, r1_common_steps) steps 2000000

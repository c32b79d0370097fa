use native.Mathlib.Omega.{arith as r0_arith}
use Rattle.std.proofs.lemmas.Grind.{common_steps as r1_common_steps}
use Rattle.value_rules.proofs.call.begun.Goals as rung_goal

pub returns-then-fit : rung_goal.returns-then-fit
returns-then-fit c = grind (r0_arith, r1_common_steps) steps 2000000

pub returns-else-fit : rung_goal.returns-else-fit
returns-else-fit c = grind (r0_arith, r1_common_steps) steps 2000000

use native.Mathlib.Omega.{arith as r0_arith}
use Rattle.std.proofs.lemmas.Grind.{common_steps as r1_common_steps}
use Rattle.value_rules.proofs.value.choice.Goals as rung_goal

pub returns-then-stop : rung_goal.returns-then-stop
returns-then-stop c = grind (r0_arith, r1_common_steps) steps 2000000

pub returns-else-stop : rung_goal.returns-else-stop
returns-else-stop c = grind (r0_arith, r1_common_steps) steps 2000000

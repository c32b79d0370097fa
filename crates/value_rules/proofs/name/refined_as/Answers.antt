use native.Mathlib.Omega.{arith as r0_arith}
use Rattle.std.proofs.lemmas.Grind.{common_steps as r1_common_steps}
use Rattle.value_rules.proofs.name.refined_as.Goals as rung_goal

pub returns-in-Expression : rung_goal.returns-in-Expression
returns-in-Expression c = grind (r0_arith, r1_common_steps) steps 2000000

pub returns-in-Counter : rung_goal.returns-in-Counter
returns-in-Counter c = grind (r0_arith, r1_common_steps) steps 2000000

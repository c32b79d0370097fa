use native.Mathlib.Omega.{arith as r0_arith}
use Rattle.std.proofs.lemmas.Grind.{common_steps as r1_common_steps}
use Rattle.value_rules.proofs.name.started.Goals as rung_goal

pub returns-in-Start : rung_goal.returns-in-Start
returns-in-Start c = grind (r0_arith, r1_common_steps) steps 2000000

pub returns-in_default : rung_goal.returns-in_default
returns-in_default c = grind (r0_arith, r1_common_steps) steps 2000000

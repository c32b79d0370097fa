use native.Mathlib.Omega.{arith as r0_arith}
use Rattle.std.proofs.lemmas.Grind.{common_steps as r1_common_steps}
use Rattle.value_rules.proofs.call.requested.Goals as rung_goal

pub returns-in-None : rung_goal.returns-in-None
returns-in-None c = grind (r0_arith, r1_common_steps) steps 2000000

pub returns-in-Some : rung_goal.returns-in-Some
returns-in-Some c = grind (r0_arith, r1_common_steps) steps 2000000

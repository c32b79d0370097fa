use native.Mathlib.Omega.{arith as r0_arith}
use Rattle.std.proofs.lemmas.Grind.{common_steps as r1_common_steps}
use Rattle.value_rules.proofs.call.performed.Goals as rung_goal

pub returns-in-Predefined : rung_goal.returns-in-Predefined
returns-in-Predefined c = grind (r0_arith, r1_common_steps) steps 2000000

pub returns-in-Body : rung_goal.returns-in-Body
returns-in-Body c = grind (r0_arith, r1_common_steps) steps 2000000

use native.Mathlib.Omega.{arith as r0_arith}
use Rattle.std.proofs.lemmas.Grind.{common_steps as r1_common_steps}
use Rattle.value_rules.proofs.name.body_of.Goals as rung_goal

pub returns-in-None : rung_goal.returns-in-None
returns-in-None c = grind (r0_arith, r1_common_steps) steps 2000000

pub returns-in_ok-behind-in-Body-default-default-default-None : rung_goal.returns-in_ok-behind-in-Body-default-default-default-None
returns-in_ok-behind-in-Body-default-default-default-None c = grind (r0_arith, r1_common_steps) steps 2000000

pub returns-in-Predefined : rung_goal.returns-in-Predefined
returns-in-Predefined c = grind (r0_arith, r1_common_steps) steps 2000000

pub returns-in-Predefined-2 : rung_goal.returns-in-Predefined-2
returns-in-Predefined-2 c = grind (r0_arith, r1_common_steps) steps 2000000

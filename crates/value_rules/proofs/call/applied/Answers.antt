use native.Mathlib.Omega.{arith as r0_arith}
use Rattle.std.proofs.lemmas.Grind.{common_steps as r1_common_steps}
use Rattle.value_rules.proofs.call.applied.Goals as rung_goal

pub returns-then-is_unclear : rung_goal.returns-then-is_unclear
returns-then-is_unclear c = grind (r0_arith, r1_common_steps) steps 2000000

pub returns-in-Some : rung_goal.returns-in-Some
returns-in-Some c = grind (r0_arith, r1_common_steps) steps 2000000

pub returns-in-None : rung_goal.returns-in-None
returns-in-None c = grind (r0_arith, r1_common_steps) steps 2000000

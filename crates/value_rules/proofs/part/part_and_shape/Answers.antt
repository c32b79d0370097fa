use native.Mathlib.Omega.{arith as r0_arith}
use Rattle.std.proofs.lemmas.Grind.{common_steps as r1_common_steps}
use Rattle.value_rules.proofs.part.part_and_shape.Goals as rung_goal

pub returns-in_ok-shape-in-Some-Some : rung_goal.returns-in_ok-shape-in-Some-Some
returns-in_ok-shape-in-Some-Some c = grind (r0_arith, r1_common_steps) steps 2000000

pub returns-in_default : rung_goal.returns-in_default
returns-in_default c = grind (r0_arith, r1_common_steps) steps 2000000

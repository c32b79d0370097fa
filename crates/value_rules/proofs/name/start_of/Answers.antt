use native.Mathlib.Omega.{arith as r0_arith}
use Rattle.std.proofs.lemmas.Grind.{common_steps as r1_common_steps}
use Rattle.value_rules.proofs.name.start_of.Goals as rung_goal

pub returns-then-is_procedure : rung_goal.returns-then-is_procedure
returns-then-is_procedure c = grind (r0_arith, r1_common_steps) steps 2000000

pub returns-else-is_procedure : rung_goal.returns-else-is_procedure
returns-else-is_procedure c = grind (r0_arith, r1_common_steps) steps 2000000

use native.Mathlib.Omega.{arith as r0_arith}
use Rattle.std.proofs.lemmas.Grind.{common_steps as r1_common_steps}
use Rattle.value_rules.proofs.name.start_named.Goals as rung_goal

pub returns-in-Some : rung_goal.returns-in-Some
returns-in-Some c = grind (r0_arith, r1_common_steps) steps 2000000

pub returns-then-is_name_known : rung_goal.returns-then-is_name_known
returns-then-is_name_known c = grind (r0_arith, r1_common_steps) steps 2000000

pub returns-else-is_name_known : rung_goal.returns-else-is_name_known
returns-else-is_name_known c = grind (r0_arith, r1_common_steps) steps 2000000

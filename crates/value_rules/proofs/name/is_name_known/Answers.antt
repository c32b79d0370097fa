use native.Mathlib.Omega.{arith as r0_arith}
use Rattle.std.proofs.lemmas.Grind.{common_steps as r1_common_steps}
use Rattle.value_rules.proofs.name.is_name_known.Goals as rung_goal

pub returns-then-is_begin_name : rung_goal.returns-then-is_begin_name
returns-then-is_begin_name c = grind (r0_arith, r1_common_steps) steps 2000000

pub returns-else-is_begin_name : rung_goal.returns-else-is_begin_name
returns-else-is_begin_name c = grind (r0_arith, r1_common_steps) steps 2000000

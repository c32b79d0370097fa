use native.Mathlib.Omega.{arith as r0_arith}
use Rattle.std.proofs.lemmas.Grind.{common_steps as r1_common_steps}
use Rattle.value_rules.proofs.name.type_declared.Goals as rung_goal

pub returns-in-None : rung_goal.returns-in-None
returns-in-None c = grind (r0_arith, r1_common_steps) steps 2000000

pub returns-then-named-at : rung_goal.returns-then-named-at
returns-then-named-at c = grind (r0_arith, r1_common_steps) steps 2000000

pub returns-then-is_open : rung_goal.returns-then-is_open
returns-then-is_open c = grind (r0_arith, r1_common_steps) steps 2000000

pub returns-else-is_open : rung_goal.returns-else-is_open
returns-else-is_open c = grind (r0_arith, r1_common_steps) steps 2000000

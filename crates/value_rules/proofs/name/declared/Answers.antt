use native.Mathlib.Omega.{arith as r0_arith}
use Rattle.std.proofs.lemmas.Grind.{common_steps as r1_common_steps}
use Rattle.value_rules.proofs.name.declared.Goals as rung_goal

pub returns-in-None : rung_goal.returns-in-None
returns-in-None c = grind (r0_arith, r1_common_steps) steps 2000000

pub returns-then-found-at : rung_goal.returns-then-found-at
returns-then-found-at c = grind (r0_arith, r1_common_steps) steps 2000000

pub returns-then-holds_open : rung_goal.returns-then-holds_open
returns-then-holds_open c = grind (r0_arith, r1_common_steps) steps 2000000

pub returns-else-holds_open : rung_goal.returns-else-holds_open
returns-else-holds_open c = grind (r0_arith, r1_common_steps) steps 2000000

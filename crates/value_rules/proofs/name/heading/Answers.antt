use native.Mathlib.Omega.{arith as r0_arith}
use Rattle.std.proofs.lemmas.Grind.{common_steps as r1_common_steps}
use Rattle.value_rules.proofs.name.heading.Goals as rung_goal

pub returns-in-None : rung_goal.returns-in-None
returns-in-None c = grind (r0_arith, r1_common_steps) steps 2000000

pub returns-then-first-at : rung_goal.returns-then-first-at
returns-then-first-at c = grind (r0_arith, r1_common_steps) steps 2000000

pub returns-then-missing : rung_goal.returns-then-missing
returns-then-missing c = grind (r0_arith, r1_common_steps) steps 2000000

pub returns-then-open : rung_goal.returns-then-open
returns-then-open c = grind (r0_arith, r1_common_steps) steps 2000000

pub returns : rung_goal.returns
returns c = grind (r0_arith, r1_common_steps) steps 2000000

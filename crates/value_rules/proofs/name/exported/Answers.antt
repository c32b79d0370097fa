use native.Mathlib.Omega.{arith as r0_arith}
use Rattle.std.proofs.lemmas.Grind.{common_steps as r1_common_steps}
use Rattle.value_rules.proofs.name.exported.Goals as rung_goal

pub returns-then-doubled : rung_goal.returns-then-doubled
returns-then-doubled c = grind (r0_arith, r1_common_steps) steps 2000000

pub returns-in-None : rung_goal.returns-in-None
returns-in-None c = grind (r0_arith, r1_common_steps) steps 2000000

pub returns-in-Some-true : rung_goal.returns-in-Some-true
returns-in-Some-true c = grind (r0_arith, r1_common_steps) steps 2000000

pub returns-in-Some-false : rung_goal.returns-in-Some-false
returns-in-Some-false c = grind (r0_arith, r1_common_steps) steps 2000000

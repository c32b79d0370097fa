use native.Mathlib.Omega.{arith as r0_arith}
use Rattle.std.proofs.lemmas.Grind.{common_steps as r1_common_steps}
use Rattle.value_rules.proofs.name.declared_as.Goals as rung_goal

pub returns-in-Bound : rung_goal.returns-in-Bound
returns-in-Bound c = grind (r0_arith, r1_common_steps) steps 2000000

pub returns-in-Parameter : rung_goal.returns-in-Parameter
returns-in-Parameter c = grind (r0_arith, r1_common_steps) steps 2000000

pub returns-in-Variable : rung_goal.returns-in-Variable
returns-in-Variable c = grind (r0_arith, r1_common_steps) steps 2000000

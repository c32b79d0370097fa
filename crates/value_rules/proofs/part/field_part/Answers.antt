use native.Mathlib.Omega.{arith as r0_arith}
use Rattle.std.proofs.lemmas.Grind.{common_steps as r1_common_steps}
use Rattle.value_rules.proofs.part.field_part.Goals as rung_goal

pub returns-in-Variable : rung_goal.returns-in-Variable
returns-in-Variable c = grind (r0_arith, r1_common_steps) steps 2000000

pub returns-in-Value : rung_goal.returns-in-Value
returns-in-Value c = grind (r0_arith, r1_common_steps) steps 2000000

pub returns-in_default : rung_goal.returns-in_default
returns-in_default c = grind (r0_arith, r1_common_steps) steps 2000000

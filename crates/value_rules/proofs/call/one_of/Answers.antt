use native.Mathlib.Omega.{arith as r0_arith}
use Rattle.std.proofs.lemmas.Grind.{common_steps as r1_common_steps}
use Rattle.value_rules.proofs.call.one_of.Goals as rung_goal

pub returns-then-len-ne1 : rung_goal.returns-then-len-ne1
returns-then-len-ne1 c = grind (r0_arith, r1_common_steps) steps 2000000

pub returns : rung_goal.returns
returns c = grind (r0_arith, r1_common_steps) steps 2000000

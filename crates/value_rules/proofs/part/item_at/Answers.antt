use native.Mathlib.Omega.{arith as r0_arith}
use Rattle.std.proofs.lemmas.Grind.{common_steps as r1_common_steps}
use Rattle.value_rules.proofs.part.item_at.Goals as rung_goal

pub returns-in-Err : rung_goal.returns-in-Err
returns-in-Err c = grind (r0_arith, r1_common_steps) steps 2000000

pub returns-in-Err-new : rung_goal.returns-in-Err-new
returns-in-Err-new c = grind (r0_arith, r1_common_steps) steps 2000000

pub returns-in-Ok-new : rung_goal.returns-in-Ok-new
returns-in-Ok-new c = grind (r0_arith, r1_common_steps) steps 2000000

use native.Mathlib.Omega.{arith as r0_arith}
use Rattle.std.proofs.lemmas.Grind.{common_steps as r1_common_steps}
use Rattle.value_rules.proofs.part.field_place.Goals as rung_goal

pub returns-in-Err : rung_goal.returns-in-Err
returns-in-Err c = grind (r0_arith, r1_common_steps) steps 2000000

pub returns-in-Ok-None : rung_goal.returns-in-Ok-None
returns-in-Ok-None c = grind (r0_arith, r1_common_steps) steps 2000000

pub returns-in-Ok-Some : rung_goal.returns-in-Ok-Some
returns-in-Ok-Some c = grind (r0_arith, r1_common_steps) steps 2000000

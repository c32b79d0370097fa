use native.Mathlib.Omega.{arith as r0_arith}
use Rattle.std.proofs.lemmas.Grind.{common_steps as r1_common_steps}
use Rattle.value_rules.proofs.part.taken.Goals as rung_goal

pub returns-in-Err : rung_goal.returns-in-Err
returns-in-Err c = grind (r0_arith, r1_common_steps) steps 2000000

pub returns-in-Ok : rung_goal.returns-in-Ok
returns-in-Ok c = grind (r0_arith, r1_common_steps) steps 2000000

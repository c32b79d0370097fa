use native.Mathlib.Omega.{arith as r0_arith}
use Rattle.std.proofs.lemmas.Grind.{common_steps as r1_common_steps}
use Rattle.value_rules.proofs.call.values_in.Goals as rung_goal

pub loop-actual-init-derived : rung_goal.loop-actual-init-derived
loop-actual-init-derived c = grind (r0_arith, r1_common_steps) steps 2000000

pub loop-actual-init : rung_goal.loop-actual-init
loop-actual-init c = grind (r0_arith, r1_common_steps) steps 2000000

pub loop-actual-preserved : rung_goal.loop-actual-preserved
loop-actual-preserved c = grind (r0_arith, r1_common_steps) steps 2000000

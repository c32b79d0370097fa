use native.Mathlib.Omega.{arith as r0_arith}
use Rattle.std.proofs.lemmas.Grind.{common_steps as r1_common_steps}
use Rattle.value_rules.proofs.call.called.Goals as rung_goal

pub returns : rung_goal.returns
returns c = grind (r0_arith, r1_common_steps) steps 2000000

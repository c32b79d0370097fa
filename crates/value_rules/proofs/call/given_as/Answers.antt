use native.Mathlib.Omega.{arith as r0_arith}
use Rattle.std.proofs.lemmas.Grind.{common_steps as r1_common_steps}
use Rattle.value_rules.proofs.call.given_as.Goals as rung_goal

pub returns-in_ok-value-in-Const : rung_goal.returns-in_ok-value-in-Const
returns-in_ok-value-in-Const c = grind (r0_arith, r1_common_steps) steps 2000000

pub returns-in_ok-place-in-Var : rung_goal.returns-in_ok-place-in-Var
returns-in_ok-place-in-Var c = grind (r0_arith, r1_common_steps) steps 2000000

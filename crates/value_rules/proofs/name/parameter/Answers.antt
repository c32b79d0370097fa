use native.Mathlib.Omega.{arith as r0_arith}
use Rattle.std.proofs.lemmas.Grind.{common_steps as r1_common_steps}
use Rattle.value_rules.proofs.name.parameter.Goals as rung_goal

pub returns-in-Const : rung_goal.returns-in-Const
returns-in-Const c = grind (r0_arith, r1_common_steps) steps 2000000

pub returns-in-Var : rung_goal.returns-in-Var
returns-in-Var c = grind (r0_arith, r1_common_steps) steps 2000000

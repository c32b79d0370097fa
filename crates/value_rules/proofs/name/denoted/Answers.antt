use native.Mathlib.Omega.{arith as r0_arith}
use Rattle.std.proofs.lemmas.Grind.{common_steps as r1_common_steps}
use Rattle.value_rules.proofs.name.denoted.Goals as rung_goal

pub returns-then-holds_open : rung_goal.returns-then-holds_open
returns-then-holds_open c = grind (r0_arith, r1_common_steps) steps 2000000

pub returns-in-Variable : rung_goal.returns-in-Variable
returns-in-Variable c = grind (r0_arith, r1_common_steps) steps 2000000

pub returns-in-Constant : rung_goal.returns-in-Constant
returns-in-Constant c = grind (r0_arith, r1_common_steps) steps 2000000

pub returns-in-Bound : rung_goal.returns-in-Bound
returns-in-Bound c = grind (r0_arith, r1_common_steps) steps 2000000

pub returns-in-Parameter : rung_goal.returns-in-Parameter
returns-in-Parameter c = grind (r0_arith, r1_common_steps) steps 2000000

pub returns-in-Procedure : rung_goal.returns-in-Procedure
returns-in-Procedure c = grind (r0_arith, r1_common_steps) steps 2000000

pub returns-in-Refinement : rung_goal.returns-in-Refinement
returns-in-Refinement c = grind (r0_arith, r1_common_steps) steps 2000000

pub returns-in-Denoter : rung_goal.returns-in-Denoter
returns-in-Denoter c = grind (r0_arith, r1_common_steps) steps 2000000

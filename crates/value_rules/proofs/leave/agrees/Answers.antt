use native.Mathlib.Omega.{arith as r0_arith}
use Rattle.std.proofs.lemmas.Grind.{common_steps as r1_common_steps}
use Rattle.value_rules.proofs.leave.agrees.Goals as rung_goal

pub returns-in-Some-Nothing-Absent : rung_goal.returns-in-Some-Nothing-Absent
returns-in-Some-Nothing-Absent c = grind (r0_arith, r1_common_steps) steps 2000000

pub returns-in-Some-Of-default : rung_goal.returns-in-Some-Of-default
returns-in-Some-Of-default c = grind (r0_arith, r1_common_steps) steps 2000000

pub returns-in-None-Absent : rung_goal.returns-in-None-Absent
returns-in-None-Absent c = grind (r0_arith, r1_common_steps) steps 2000000

pub returns-in-None-Variable : rung_goal.returns-in-None-Variable
returns-in-None-Variable c = grind (r0_arith, r1_common_steps) steps 2000000

pub returns-in-None-Value : rung_goal.returns-in-None-Value
returns-in-None-Value c = grind (r0_arith, r1_common_steps) steps 2000000

pub returns-in_default : rung_goal.returns-in_default
returns-in_default c = grind (r0_arith, r1_common_steps) steps 2000000

pub returns-in_default-2 : rung_goal.returns-in_default-2
returns-in_default-2 c = grind (r0_arith, r1_common_steps) steps 2000000

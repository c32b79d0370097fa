use native.Mathlib.Omega.{arith as r0_arith}
use Rattle.std.proofs.lemmas.Grind.{common_steps as r1_common_steps}
use Rattle.value_rules.proofs.name.place_in.Goals as rung_goal

pub returns-in-Level-default : rung_goal.returns-in-Level-default
returns-in-Level-default c = grind (r0_arith, r1_common_steps) steps 2000000

pub returns-in_ok-behind-in-Packet-default : rung_goal.returns-in_ok-behind-in-Packet-default
returns-in_ok-behind-in-Packet-default c = grind (r0_arith, r1_common_steps) steps 2000000

pub returns-in-Routine-Const : rung_goal.returns-in-Routine-Const
returns-in-Routine-Const c = grind (r0_arith, r1_common_steps) steps 2000000

pub returns-in-Routine-Var : rung_goal.returns-in-Routine-Var
returns-in-Routine-Var c = grind (r0_arith, r1_common_steps) steps 2000000

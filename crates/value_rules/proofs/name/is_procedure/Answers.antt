use native.Mathlib.Omega.{arith as r0_arith}
use Rattle.std.proofs.lemmas.Grind.{common_steps as r1_common_steps}
use Rattle.value_rules.proofs.name.is_procedure.Goals as rung_goal

pub returns-in-None : rung_goal.returns-in-None
returns-in-None c = grind (r0_arith, r1_common_steps) steps 2000000

pub returns-in-Packet-Procedure : rung_goal.returns-in-Packet-Procedure
returns-in-Packet-Procedure c = grind (r0_arith, r1_common_steps) steps 2000000

pub returns-in_default : rung_goal.returns-in_default
returns-in_default c = grind (r0_arith, r1_common_steps) steps 2000000

pub returns-in_default-2 : rung_goal.returns-in_default-2
returns-in_default-2 c = grind (r0_arith, r1_common_steps) steps 2000000

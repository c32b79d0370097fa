use native.Mathlib.Omega.{arith as r0_arith}
use Rattle.std.proofs.lemmas.Grind.{common_steps as r1_common_steps}
use Rattle.value_rules.proofs.name.headed_as.Goals as rung_goal

pub returns-then-missing : rung_goal.returns-then-missing
returns-then-missing c = grind (r0_arith, r1_common_steps) steps 2000000

pub returns-else-missing : rung_goal.returns-else-missing
returns-else-missing c = grind (r0_arith, r1_common_steps) steps 2000000

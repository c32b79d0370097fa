use native.Mathlib.Omega.{arith as r0_arith}
use Rattle.std.proofs.lemmas.Grind.{common_steps as r1_common_steps}
use Rattle.value_rules.proofs.name.plainly_held.Goals as rung_goal

pub returns-clause-home : rung_goal.returns-clause-home
returns-clause-home c = grind (r0_arith, r1_common_steps) steps 2000000

pub returns-clause-number : rung_goal.returns-clause-number
returns-clause-number c = grind (r0_arith, r1_common_steps) steps 2000000

pub returns-clause-access : rung_goal.returns-clause-access
returns-clause-access c = grind (r0_arith, r1_common_steps) steps 2000000

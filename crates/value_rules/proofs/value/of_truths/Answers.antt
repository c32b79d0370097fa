use native.Mathlib.Omega.{arith as r0_arith}
use Rattle.std.proofs.lemmas.Grind.{common_steps as r1_common_steps}
use Rattle.value_rules.proofs.value.of_truths.Goals as rung_goal

pub returns-then-delivers_kind-2 : rung_goal.returns-then-delivers_kind-2
returns-then-delivers_kind-2 c = grind (r0_arith, r1_common_steps) steps 2000000

pub returns-else-delivers_kind : rung_goal.returns-else-delivers_kind
returns-else-delivers_kind c = grind (r0_arith, r1_common_steps) steps 2000000

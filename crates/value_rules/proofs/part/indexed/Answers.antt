use native.Mathlib.Omega.{arith as r0_arith}
use Rattle.std.proofs.lemmas.Grind.{common_steps as r1_common_steps}
use Rattle.value_rules.proofs.part.indexed.Goals as rung_goal

pub returns-then-not-delivers_kind : rung_goal.returns-then-not-delivers_kind
returns-then-not-delivers_kind c = grind (r0_arith, r1_common_steps) steps 2000000

pub returns-in-Err : rung_goal.returns-in-Err
returns-in-Err c = grind (r0_arith, r1_common_steps) steps 2000000

pub returns-in-Ok : rung_goal.returns-in-Ok
returns-in-Ok c = grind (r0_arith, r1_common_steps) steps 2000000

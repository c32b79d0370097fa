use native.Mathlib.Omega.{arith as r0_arith}
use Rattle.std.proofs.lemmas.Grind.{common_steps as r1_common_steps}
use Rattle.std.proofs.Common.{sym, ◌∙◌}
use Rattle.elan_meant.specs.Verdict.{told}
use Rattle.elan_names.specs.walks.Seen.{parameters}
use Rattle.value_rules.proofs.Given.{next_is}
use Rattle.value_rules.proofs.call.give.Goals as goal

pub returns-in-Ok-Some : goal.returns-in-Ok-Some
returns-in-Ok-Some c = λ given h.
    next_is c.and.result c.given_as.result c.args.at (parameters c.args.rest) c.in-Ok-Some.parameter c.args.operand given
    (sym c.in-Ok-Some.ensures ∙ c.in-Ok-Some.field-0-is) c.given_as.ensures (λ q e. c.and.ensures (told given) q h e)

pub returns-in-Err : goal.returns-in-Err
returns-in-Err c = grind (r0_arith, r1_common_steps) steps 2000000

pub returns-in-Ok-None : goal.returns-in-Ok-None
returns-in-Ok-None c = grind (r0_arith, r1_common_steps) steps 2000000

use native.Mathlib.Omega.{arith as r0_arith}
use Rattle.std.proofs.lemmas.Grind.{common_steps as r1_common_steps}
use Rattle.std.proofs.Common.{List, drop, refl, sym, ap, subst, ◌∙◌}
use Rattle.elan_types.specs.declared.elan_type.Parameter.{Parameter}
use Rattle.elan_types.specs.declared.core_phrase.Actual.{Actual}
use Rattle.elan_names.specs.walks.Seen.{parameters}
use Rattle.elan_meant.specs.Verdict.{Verdict, gives, told, Tells}
use Rattle.value_rules.specs.Calls.{given}
use Rattle.value_rules.specs.walks.Steps.{given_next}
use Rattle.value_rules.proofs.Given.{given_none, given_more, behind}
use Rattle.value_rules.proofs.call.given.Goals as goal

pub loop-operand-init : goal.loop-operand-init
loop-operand-init c =
    (refl, ap (λ (v : Verdict (List Actual)). told v) (given_none c.args.at (parameters c.args.parameters) ∙ ap (λ (l : List Actual). gives l) (sym c.new.ensures)))

pub loop-operand-preserved : goal.loop-operand-preserved
loop-operand-preserved c = (
  c.behind_first-rest.ensures ∙ ap (λ (ps : List Parameter). drop 1 ps) c.loop-operand.invariant.0 ∙
      behind c.loop-operand.yielded c.in-Some.operand (parameters c.args.parameters),
  subst (λ (r : Verdict (List Actual)). Tells c.give-actuals.result r)
      (ap (λ (ps : List Parameter). given_next c.args.at ps c.in-Some.operand (given c.args.at (parameters c.args.parameters) c.loop-operand.yielded))
      c.loop-operand.invariant.0
      ∙ sym (given_more c.args.at (parameters c.args.parameters) c.loop-operand.yielded c.in-Some.operand))
      (c.give-actuals.ensures (given c.args.at (parameters c.args.parameters) c.loop-operand.yielded) c.loop-operand.invariant.1),
)

pub loop-operand-init-derived : goal.loop-operand-init-derived
loop-operand-init-derived c = grind (r0_arith, r1_common_steps) steps 2000000

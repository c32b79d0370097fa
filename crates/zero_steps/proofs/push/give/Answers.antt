use Rattle.std.proofs.Common.{refl, sym, ap, ◌∙◌}
use Rattle.eu_base.specs.declared.stop.Stop.TheVariants as stops
use Rattle.code_form.specs.declared.operand.Operand.TheVariants as operand
use Rattle.zero_ops.specs.Given.{given_of}
use Rattle.zero_steps.specs.Giving.{pushed}
use Rattle.zero_steps.proofs.Pushing.{given_full}
use Rattle.zero_steps.proofs.push.give.Goals as goal

pub returns-else-branch : goal.returns-else-branch
returns-else-branch c =
    let s = c.args.s.now in
    let ensured = c.in_ok-push-in-Ok.ensures in (
      ensured.goes ∙ ap (pushed s (operand.Value c.in-Ok.value)) c.if-branch.false,
      (
        stops.OperandRoom,
        (
          refl,
          given_full s.stack.ops s.stack.frames (given_of c.args.given) c.in-Ok.value (ap given_of c.in-Ok.is)
              (sym ensured.room ∙ c.if-branch.false),
        ),
      ),
    )

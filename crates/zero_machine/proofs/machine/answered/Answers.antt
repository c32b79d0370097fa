use Rattle.std.proofs.Common.{◌≡◌, None, Some, sym, ap, ◌∙◌}
use Rattle.std.specs.Prelude.{option_map}
use Rattle.eu_base.specs.declared.request.Request.{Request}
use Rattle.eu_base.specs.declared.request.Request.TheVariants as requests
use Rattle.code_form.specs.Machine.{answered_by}
use Rattle.zero_machine.proofs.machine.answered.Goals as goal

pub returns-in-Some : goal.returns-in-Some
returns-in-Some c = λ request at is.
    ap (λ o. answered_by o c.args.r at) (sym (c.answer_asked.ensures request is ∙ ap (option_map requests.Answer) c.in-Some.is))

pub returns-in-None : goal.returns-in-None
returns-in-None c = λ request at is.
    c.heeded.ensures at ∙ ap (λ o. answered_by o c.args.r at) (sym (c.answer_asked.ensures request is ∙ ap (option_map requests.Answer) c.in-None.is))

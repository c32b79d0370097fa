use Rattle.std.proofs.Common.{Option, ap, ◌∙◌}
use Rattle.eu_base.specs.declared.request.Request.{Request}
use Rattle.task_requests.specs.Below.system_meaning.specs.Serving.{called_with}
use Rattle.task_requests.proofs.messages.space_of.Goals as goal

pub returns : goal.returns
returns c = λ m h. c.called_with.ensures ∙ ap (λ (q : Option Request). called_with q) (c.asked.ensures m h)

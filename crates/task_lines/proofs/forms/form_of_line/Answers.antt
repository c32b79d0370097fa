use Rattle.std.proofs.Common.{ap, sym, ◌∙◌}
use Rattle.elan_lexer.specs.Tokens.{tokens_of, limited}
use Rattle.monitor.specs.Words.{words}
use Rattle.monitor.specs.Forms.{form_of}
use Rattle.task_lines.proofs.Kept.{if_ok}
use Rattle.task_lines.proofs.Taking.{form_tokens}
use Rattle.task_lines.proofs.forms.form_of_line.Goals as goal

pub returns-in-Ok : goal.returns-in-Ok
returns-in-Ok c =
    if_ok c.form-form.result _ _
    (λ form is short. is ∙ ap (λ ts. form_of (words ts)) c.as_slice.ensures
    ∙ sym (form_tokens (limited (tokens_of c.args.line.now)) c.in-Ok.tokens c.in-Ok.ensures.answer))
    c.form-form.ensures.form

use Rattle.task_requests.proofs.Results.{if_ok}
use Rattle.std.proofs.Common.{sym, ◌∙◌}
use Rattle.task_requests.proofs.requests.served.Goals as goal

pub returns-then-is_about_message : goal.returns-then-is_about_message
returns-then-is_about_message c =
    if_ok c.message.result _ _ (λ goes f m asks h. f m (sym c.is_about_message.ensures ∙ c.if-is_about_message.true) asks h) c.message.ensures

pub returns-else-is_about_message : goal.returns-else-is_about_message
returns-else-is_about_message c =
    if_ok c.replied.result _ _ (λ goes f m asks h. f m (sym c.is_about_message.ensures ∙ c.if-is_about_message.false) asks.live h) c.replied.ensures

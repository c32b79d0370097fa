use Rattle.std.proofs.Common.{sym, subst}
use Rattle.task_requests.specs.Below.system_meaning.specs.Serving.{Served}
use Rattle.task_requests.specs.Served.{GoesAs}
use Rattle.task_requests.proofs.Results.{if_ok}
use Rattle.task_requests.proofs.Sending.{wait_stopped, waits_so}
use Rattle.task_requests.proofs.messages.wait.Goals as goal

pub returns-in-Some : goal.returns-in-Some
returns-in-Some c =
    if_ok c.answered.result _ _
    (λ goes f m asks h. subst (λ (x : Served). GoesAs c.args.task x c.answered.new.system goes)
    (sym (wait_stopped c.args.task m c.in-Some.stop (c.in-Some.ensures m h))) (f m h))
    c.answered.ensures

pub returns-in-None : goal.returns-in-None
returns-in-None c =
    if_ok c.message_for.result _ _
    (λ goes f m asks h. subst (λ (x : Served). GoesAs c.args.task x c.message_for.new.system goes)
    (sym (waits_so c.args.task m (c.in-None.ensures m h))) (f m asks (sym (c.in-None.ensures m h)) h))
    c.message_for.ensures

use Rattle.std.proofs.Common.{◌≡◌, true, sym, subst, ◌∙◌}
use Rattle.task_requests.specs.Below.system_meaning.specs.Serving.{may_end, end_allowed}
use Rattle.task_requests.specs.Served.{ServedAs}
use Rattle.task_requests.proofs.Results.{if_ok}
use Rattle.task_requests.proofs.Ending.{ends_other}
use Rattle.task_requests.proofs.ends.end_living.Goals as goal

pub returns-clause-served : goal.returns-clause-served
returns-clause-served c = if_ok c.end_allowed.result _ _ (λ reply served m live h.
    let may : true ≡ may_end c.args.task c.args.other m.system = sym c.if-not-may.false ∙ c.in_ok-may.ensures m h in
    subst (λ b. ServedAs (end_allowed b c.args.task c.args.other m) c.end_allowed.new.system reply) may
    (served m live (ends_other c.args.task c.args.other m.system (sym may)) h)) c.end_allowed.ensures.served

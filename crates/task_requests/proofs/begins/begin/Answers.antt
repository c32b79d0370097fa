use Rattle.std.proofs.Common.{◌≡◌, None, sym, subst}
use Rattle.task_requests.specs.Below.units.specs.Library.{started_at}
use Rattle.task_requests.specs.Below.system_meaning.specs.Systems.{packets}
use Rattle.task_requests.specs.Below.system_meaning.specs.Serving.{begin_refusal, begin_with}
use Rattle.task_requests.specs.Served.{ServedAs}
use Rattle.task_requests.proofs.Results.{if_ok}
use Rattle.task_requests.proofs.begins.begin.Goals as goal

pub returns-in-None-clause-served : goal.returns-in-None-clause-served
returns-in-None-clause-served c = if_ok c.begin_running.result _ _ (λ reply served m live h.
    let none : None ≡ begin_refusal c.args.name.now m.system = c.in-None.ensures m h in
    subst (λ o. ServedAs (begin_with o (started_at m.system.shared.library (packets c.args.task m.system) c.args.start) c.args.name.now c.args.task m) c.begin_running.new.system reply)
    none (served m live (sym none) h)) c.begin_running.ensures.served

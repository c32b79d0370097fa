use Rattle.std.proofs.Common.{subst}
use Rattle.task_requests.specs.Below.units.specs.Library.{started_at}
use Rattle.task_requests.specs.Below.system_meaning.specs.Systems.{packets}
use Rattle.live_system.specs.Steps.{BeginsRunning}
use Rattle.task_requests.proofs.Beginning.{none_refused, begun, not_begun}
use Rattle.task_requests.proofs.begins.begin_running.Goals as goal

pub returns-in-Some-clause-served : goal.returns-in-Some-clause-served
returns-in-Some-clause-served c = λ m live none h.
    let unit = started_at m.system.shared.library (packets c.args.task m.system) c.args.start in
    begun c.begin_running.new.self c.args.name.now c.args.task m unit c.in-Some.son
    (subst (λ o. BeginsRunning unit c.begin_running.new.self c.args.name.now c.args.task m o) c.in-Some.is
    (c.in_ok-son.ensures m live (none_refused c.args.name.now m.system none) h))

pub returns-in-None-clause-served : goal.returns-in-None-clause-served
returns-in-None-clause-served c = λ m live none h.
    let unit = started_at m.system.shared.library (packets c.args.task m.system) c.args.start in
    not_begun c.begin_running.new.self c.args.name.now c.args.task m unit
    (subst (λ o. BeginsRunning unit c.begin_running.new.self c.args.name.now c.args.task m o) c.in-None.is
    (c.in_ok-son.ensures m live (none_refused c.args.name.now m.system none) h))

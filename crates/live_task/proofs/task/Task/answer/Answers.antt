use Rattle.std.proofs.Common.{◌≡◌, Option, Some, None, sym, ◌∙◌, ap, subst}
use Rattle.std.specs.Prelude.{option_copied}
use Rattle.eu_base.specs.declared.request.Request.{Request}
use Rattle.page_pool.specs.Pool.{Pages}
use Rattle.live_task.specs.Below.space_memory.specs.Memories.{MemoryData}
use Rattle.code_form.specs.Runs.{asked}
use Rattle.live_task.specs.Below.system_meaning.specs.Tasks.{request_of, replied, with_doing}
use Rattle.task_job.proofs.Standing.{asked_is}
use Rattle.live_task.specs.Stands.{StandsFor, Received}
use Rattle.live_task.specs.declared.task.Task.{Task}
use Rattle.live_task.proofs.Tasking.{answered, asks_it, asks_nothing, unasked, copied_none, copied_some}
use Rattle.live_task.proofs.task.Task.answer.Goals as goal

pub returns-then-is_none-clause-answered : goal.returns-then-is_none-clause-answered
returns-then-is_none-clause-answered c kinds own a is due =
    let there : Task = record c.args.self.now { memory = due.before } in
    let none : option_copied c.asked.result ≡ None = copied_none c.asked.result c.is_none.result c.is_none.ensures c.if-is_none.true in
    let nothing : request_of own.doing ≡ None =
    asks_nothing kinds due.old there own due.stood (λ job runs. sym (c.asked.ensures.waits job runs) ∙ none) in
    let same = subst (λ (o : Option Request). Received o a due.old c.args.pool.now due.before c.args.self.now.memory) nothing due.received in
    subst (λ (p : Pages). StandsFor kinds p c.args.self.now (with_doing (replied a own.doing) own)) same.0
    (subst (λ (m : MemoryData). StandsFor kinds due.old (record c.args.self.now { memory = m }) (with_doing (replied a own.doing) own)) same.1
    (unasked kinds due.old there own due.stood a nothing))

pub returns-in-Ok-clause-answered : goal.returns-in-Ok-clause-answered
returns-in-Ok-clause-answered c kinds own a is due =
    let there : Task = record c.args.self.now { memory = due.before } in
    let some = copied_some c.asked.result c.is_none.result c.is_none.ensures c.if-is_none.false (asked c.in-Running.job.run.waits)
    (c.asked.ensures.waits c.in-Running.job c.in-Running.is) in
    let q = asked_is c.in-Running.job.run.waits some in
    let asks : request_of own.doing ≡ Some q.0 = asks_it kinds due.old there own due.stood c.in-Running.job c.in-Running.is ∙ ap asked q.1 in
    let did = subst (λ (o : Option Request). Received o a due.old c.args.pool.now due.before c.args.self.now.memory) asks due.received in
    answered kinds due.old c.answer.new.pool there c.answer.new.memory own c.in-Running.job c.answer.new.self q.0 a due.stood c.in-Running.is (ap asked q.1)
    (λ ks command runs. c.in-Ok.ensures.answered ks command q.0 a due.old due.before q.1 is did runs)

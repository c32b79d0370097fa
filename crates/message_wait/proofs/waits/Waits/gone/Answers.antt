-- What the closure keeps is the filter by the same test.
use Rattle.std.proofs.Common.{rules, not, arith}
use Rattle.std.proofs.lemmas.Fn.{filter_same}
use Rattle.task_numbers.specs.Numbers.{is_task}
use Rattle.message_wait.specs.declared.waits.Caller.{Caller}
use Rattle.message_wait.proofs.waits.Waits.gone.Goals as goal

pub returns-clause-after : goal.returns-clause-after
returns-clause-after c =
    let kept = filter_same _ (λ (u : Caller). not (is_task u.to c.args.task)) _ (λ x b q k. search rules) _ _ c.retain.ensures.filtered in
    grind (arith, kept, c.release.ensures, c.self.view_is)

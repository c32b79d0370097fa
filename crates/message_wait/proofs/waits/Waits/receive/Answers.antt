-- What the closure keeps is the filter by the same test.
use Rattle.std.proofs.Common.{rules, ◌≤◌, not, sym, subst, arith}
use Rattle.std.proofs.lemmas.Fn.{filter_same}
use Rattle.std.proofs.lemmas.List.Kept.{IsNonDecreasingBy-filter}
use Rattle.task_numbers.specs.declared.limits.TheConstants.{TASKS}
use Rattle.task_numbers.specs.Numbers.{is_task}
use Rattle.message_wait.specs.Rendezvous as spec
use Rattle.message_wait.specs.declared.waits.Receiver.{Receiver}
use Rattle.message_wait.proofs.waits.Waits.receive.Goals as goal

pub returns : goal.returns
returns c =
    let kept = filter_same _ (λ (r : Receiver). not (is_task r.task c.args.task)) _ (λ x b q k. search rules) _ _ c.retain.ensures.filtered in
    grind (arith, kept, c.self.view_is)

pub invariant_of-self : goal.invariant_of-self
invariant_of-self c =
    let kept = filter_same _ (λ (r : Receiver). not (is_task r.task c.args.task)) _ (λ x b q k. search rules) _ _ c.retain.ensures.filtered in
    let sorted = IsNonDecreasingBy-filter spec.number_of (λ r. not (is_task r.task c.args.task)) c.self.inside.receivers.items c.self.invariant.2 in
    (c.self.invariant.0, subst (λ n. TASKS ≤ n) (sym c.retain.ensures.capacity) c.self.invariant.1, subst spec.AreByNumber (sym kept) sorted)

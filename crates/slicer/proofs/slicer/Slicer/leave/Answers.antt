-- What the closure keeps is the filter by the same test.
use Rattle.std.proofs.Common.{rules, not, ◌≡◌, ◌≤◌, subst, sym}
use Rattle.std.proofs.lemmas.Fn.{filter_same}
use Rattle.task_numbers.specs.declared.limits.TheConstants.{TASKS}
use Rattle.task_numbers.specs.Numbers.{is_task}
use Rattle.slicer.specs.Rotation.{IsRotation, without}
use Rattle.slicer.proofs.Turning.{without_turns}
use Rattle.slicer.proofs.slicer.Slicer.leave.Goals as goal

pub returns : goal.returns
returns c =
    subst (λ ready. c.retain.new.self.items ≡ without c.args.task ready) c.self.view_is
    (filter_same _ (λ u. not (is_task u c.args.task)) _ (λ x b q k. search rules) _ _ c.retain.ensures.filtered)

pub invariant_of-self : goal.invariant_of-self
invariant_of-self c =
    let kept = filter_same _ (λ u. not (is_task u c.args.task)) _ (λ x b q k. search rules) _ _ c.retain.ensures.filtered in (
      subst (λ n. TASKS ≤ n) (sym c.retain.ensures.capacity) c.self.invariant.0,
      subst IsRotation (sym kept) (without_turns c.args.task c.self.inside.ready.items c.self.invariant.1),
    )

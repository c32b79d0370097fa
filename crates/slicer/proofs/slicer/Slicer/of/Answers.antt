-- A task of a rotation has a place.
use Rattle.std.proofs.Common.{arith}
use Rattle.task_numbers.specs.Numbers.{niltask}
use Rattle.slicer.proofs.Turning.{each_has_place}
use Rattle.slicer.proofs.slicer.Slicer.of.Goals as goal

pub returns-then-not-has_place-clause-refused : goal.returns-then-not-has_place-clause-refused
returns-then-not-has_place-clause-refused c =
    λ _ r. let there = each_has_place c.args.rows.now c.loop-task.task-index niltask r c.loop-task-test.true in
    grind (arith, there, c.has_place.ensures, c.if-not-has_place.true, c.loop-task.invariant, c.made.view_is)

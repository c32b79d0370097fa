use Rattle.std.proofs.Common.{◌≡◌, take}
use Rattle.slicer.proofs.slicer.Slicer.of.Given as goal

abbrev pub invariant-loop-task : goal.invariant-loop-task
invariant-loop-task l = l.made ≡ take l.task-index l.rows

use Rattle.memory_tests.proofs.Tasks.{none_agree}
use Rattle.memory_tests.proofs.task.Task.new.Goals as goal

pub invariant_of-result : goal.invariant_of-result
invariant_of-result c = rw (c.in_ok-paged.ensures, c.new-2.ensures.empty, c.new-3.ensures.empty) (record { agree = none_agree })

use Rattle.memory_tests.proofs.Threes.{none_agree}
use Rattle.memory_tests.proofs.data_spaces.untouched.Goals as goal

pub invariant_of-result : goal.invariant_of-result
invariant_of-result c = rw (c.in_ok-new.ensures, c.nil.ensures, c.nil-2.ensures, c.of.ensures) (record { agree = none_agree })

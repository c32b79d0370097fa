use Rattle.memory_tests.proofs.TwoSpaces.{nil_stands}
use Rattle.memory_tests.proofs.tests.over_space.Goals as goal

pub over-lent-requires-clause-agree : goal.over-lent-requires-clause-agree
over-lent-requires-clause-agree g = rw (g.in-Ok.ensures, g.nil-space.ensures) nil_stands

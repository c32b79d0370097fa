use Rattle.place_gen.proofs.Makes.{turn_makes}
use Rattle.place_gen.proofs.put.put_test.Goals as goal

pub returns : goal.returns
returns c n e = turn_makes (c.put_false.ensures n e) c.restore.ensures

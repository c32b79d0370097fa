use Rattle.place_gen.proofs.Makes.{never_makes}
use Rattle.place_gen.proofs.put.put_never.Goals as goal

pub returns : goal.returns
returns c = never_makes c.add.ensures c.put_value.ensures c.len-top.ensures

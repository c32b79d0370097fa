use Rattle.std.proofs.Common.{refl}
use Rattle.system.specs.Below.system_meaning.specs.Turns.{turn_marks}
use Rattle.system.proofs.turns.turn_marks.Goals as goal

pub returns : goal.returns
unfolding turn_marks
returns c = refl

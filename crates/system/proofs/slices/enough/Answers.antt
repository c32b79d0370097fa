use Rattle.std.proofs.Common.{◌+◌, ◌<◌, arith}
use Rattle.system.specs.Below.system_meaning.specs.Turns.{turn_marks, most_evaluations}
use Rattle.system.proofs.Slicing.{turn_enough}
use Rattle.system.proofs.Standing.{pays}
use Rattle.system.proofs.slices.enough.Goals as goal

few : turn_marks + 1 < most_evaluations
unfolding turn_marks most_evaluations
few = omega arith

pub returns : goal.returns
returns c = λ m h task turn read more.
    turn_enough c.steady.ensures read task turn_marks m (c.law.ensures m h) turn (pays c.args.system.now m h task) most_evaluations few more

-- The steps of a turn, one after another.
use Rattle.turn_laws.proofs.Beside.{turn_leaves, turn_keeps}
use Rattle.turn_laws.proofs.isolation.others_stay.Goals as goal

pub returns-clause-others : goal.returns-clause-others
returns-clause-others c = λ read m is order. turn_leaves c.steady.ensures read m is order

pub returns-clause-whole : goal.returns-clause-whole
returns-clause-whole c = λ read m is order. turn_keeps c.steady.ensures read m is order

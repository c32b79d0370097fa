use Rattle.turn_laws.proofs.Kept.{turn_stands, event_stands}
use Rattle.turn_laws.proofs.validity.tasks_stand.Goals as goal

pub returns-clause-turns : goal.returns-clause-turns
returns-clause-turns c = λ read m is order h. turn_stands c.steady.ensures read m is order h

pub returns-clause-events : goal.returns-clause-events
returns-clause-events c = λ read s e is order h. event_stands c.steady.ensures read s e is order h

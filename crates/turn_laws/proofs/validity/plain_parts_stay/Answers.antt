use Rattle.turn_laws.proofs.PlainKept.{turn_plain, event_plain}
use Rattle.turn_laws.proofs.validity.plain_parts_stay.Goals as goal

pub returns-clause-turns : goal.returns-clause-turns
returns-clause-turns c = λ read m is order stands h. turn_plain c.steady.ensures read m is order stands h

pub returns-clause-events : goal.returns-clause-events
returns-clause-events c = λ read s e fits is order stands h. event_plain c.steady.ensures read s e fits is order stands h

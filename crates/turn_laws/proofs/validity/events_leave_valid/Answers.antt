use Rattle.turn_laws.proofs.Whole.{turn_valid, event_valid, run_valid}
use Rattle.turn_laws.proofs.validity.events_leave_valid.Goals as goal

pub returns-clause-turns : goal.returns-clause-turns
returns-clause-turns c = λ read good m h. turn_valid c.steady.ensures read good m h

pub returns-clause-events : goal.returns-clause-events
returns-clause-events c = λ read good s e fits h. event_valid c.steady.ensures read good s e fits h

pub returns-clause-runs : goal.returns-clause-runs
returns-clause-runs c = λ read good s es fits h. run_valid c.steady.ensures read good s es fits h

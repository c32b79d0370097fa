-- One evaluation of a task in its turn.
use Rattle.turn_laws.proofs.Turnings.{turn_begins, asks_rightly, serves_rightly}
use Rattle.turn_laws.proofs.isolation.turns_go_on.Goals as goal

pub returns-clause-begins : goal.returns-clause-begins
returns-clause-begins c = λ u ready s is order e. turn_begins u ready s is order e

pub returns-clause-asks : goal.returns-clause-asks
returns-clause-asks c = λ u q m now is turn at. asks_rightly c.steady.ensures u q m now is turn at

pub returns-clause-serves : goal.returns-clause-serves
returns-clause-serves c = λ u q m now is turn at. serves_rightly c.steady.ensures u q m now is turn at

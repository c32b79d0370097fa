use Rattle.system.proofs.Keeping.{begins_so}
use Rattle.system.proofs.waiting.turn_begins.Goals as goal

pub returns : goal.returns
returns c = λ m stands order. begins_so c.turns_go_on.ensures.begins m.system (c.law.ensures m stands) order

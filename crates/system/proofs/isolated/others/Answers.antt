-- The moment that it stands for is one of a system.
use Rattle.system.proofs.isolated.others.Goals as goal

pub returns : goal.returns
returns c = λ read m stands orderly. c.others_stay.ensures.others read m (c.law.ensures m stands) orderly

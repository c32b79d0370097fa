-- The moment that it stands for is one of a system.
use Rattle.system.proofs.isolated.two_worlds.Goals as goal

pub returns : goal.returns
returns c = λ read u m n stands is first second four_m four_n one other same told.
    c.turns_alike.ensures read u m n (c.law.ensures m stands) is first second four_m four_n one other same told

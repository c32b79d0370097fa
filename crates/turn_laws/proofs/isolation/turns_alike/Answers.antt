-- The steps of both turns, side by side.
use Rattle.turn_laws.proofs.Worlds.{turn_goes}
use Rattle.turn_laws.proofs.isolation.turns_alike.Goals as goal

pub returns : goal.returns
returns c = λ read u m n is_m is_n order_m order_n four_m four_n one other same told.
    turn_goes read u m n is_m is_n order_m order_n four_m four_n same one other told

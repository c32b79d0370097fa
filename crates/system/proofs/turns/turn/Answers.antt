use Rattle.system.specs.Below.system_meaning.specs.Turns.{turn_of}
use Rattle.system.proofs.turns.turn.Goals as goal

pub returns : goal.returns
returns c = λ read reads m h. record {
  at = c.in_ok-close_all.ensures (turn_of read m.system.shared.ready m) (c.in_ok-first_turn.ensures read reads m h);
  orderly = (c.waits.ensures.turns read m (c.law.ensures m h.at) h.orderly).1;
}

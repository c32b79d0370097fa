use Rattle.packet_store.proofs.Sound.{sound}
use Rattle.packet_store.proofs.law.units_are_sound.Goals as goal

pub returns : goal.returns
returns c = λ u is. sound u is

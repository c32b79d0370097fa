use Rattle.packet_store.proofs.Standing.{standing}
use Rattle.packet_store.proofs.law.packets_stand_as_compiled.Goals as goal

pub returns : goal.returns
returns c = λ env i core n packet text later m. standing env i core n m

use Rattle.packet_store.proofs.Found.{a_reading}
use Rattle.packet_store.proofs.law.a_reading_exists.Goals as goal

pub returns : goal.returns
returns c = a_reading

use Rattle.packet_store.proofs.Standing.{keeping}
use Rattle.packet_store.proofs.law.bodies_keep_their_numbers.Goals as goal

pub returns : goal.returns
returns c = λ env later grows. keeping env later grows

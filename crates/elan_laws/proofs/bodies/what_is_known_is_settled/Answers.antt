use Rattle.elan_laws.proofs.Known.{settled}
use Rattle.elan_laws.proofs.bodies.what_is_known_is_settled.Goals as goal

pub returns : goal.returns
returns c = λ env t n h u has does. settled env t n h u has does

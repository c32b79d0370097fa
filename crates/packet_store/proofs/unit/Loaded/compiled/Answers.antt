use Rattle.packet_store.proofs.Sound.{sound}
use Rattle.packet_store.proofs.unit.Loaded.compiled.Goals as goal

pub returns-clause-sound : goal.returns-clause-sound
returns-clause-sound c = sound c.self.inside.compiled c.self.invariant

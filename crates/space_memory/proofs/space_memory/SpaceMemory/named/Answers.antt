use Rattle.std.proofs.Common.{subst}
use Rattle.std.specs.Option.{IfSome}
use Rattle.space_memory.specs.Live.{IsLive}
use Rattle.space_memory.specs.Memories.{MemoryData}
use Rattle.space_memory.proofs.Led.{led_found}
use Rattle.space_memory.proofs.space_memory.SpaceMemory.named.Goals as goal

pub returns-clause-live : goal.returns-clause-live
returns-clause-live c =
    subst (λ (m : MemoryData). IfSome c.get.result (λ s. IsLive s.0 m.spaces)) c.self.view_is
    (led_found _ c.self.inside.names c.args.name.now c.get.result c.get.ensures c.self.invariant)

-- What a packet shows that takes some operands.
use Rattle.std.proofs.Common.{◌≡◌, ℕ, List, Option, None, if◌then◌else◌}
use Rattle.elan_meant.specs.Below.elan_names.specs.declared.interface.Inserted.{Inserted}
use Rattle.elan_meant.specs.Below.elan_names.specs.declared.heading.Sort.{Sort}
use Rattle.elan_meant.specs.Below.elan_names.specs.Interfaces.{exports}
use Rattle.elan_meant.specs.Below.elan_names.proofs.Named.{called_named}
use Rattle.elan_scope.specs.Scope.{first, own_callables}
use Rattle.elan_scope.specs.walks.Seen.{called_in_packet}
use Rattle.elan_scope.proofs.Layers.{seen_first}
use Rattle.elan_meant.specs.declared.meant.Meant.{Meant}
use Rattle.elan_meant.specs.Operands.{takes, fit}

pub packet_chosen : (sort : Sort) (x : List ℕ) (ms : List Meant) (p : Inserted)
    → called_in_packet (takes sort x ms) p
    ≡ (if exports p.interface x then first (takes sort x ms) (own_callables p.bodies_before p.interface.headings) else None)
packet_chosen sort x ms p =
    seen_first (takes sort x ms) (exports p.interface) x (λ c. called_named sort x (fit c.parameters ms) c) (own_callables p.bodies_before p.interface.headings)

-- What tasks use of a unit.
use Rattle.std.specs.Prelude.{◌≡◌, [], None}
use Rattle.elan_types.specs.Typing.{IsWellTyped}
use Rattle.units.specs.declared.unit.Compiled.{Compiled}

-- It is well typed; where it shows nothing to later texts, it inserts nothing; and the packets of its core are those behind which it stands.
pub record IsSoundUnit (u : Compiled) : Type 0 where
  pub typed : IsWellTyped u.core
  pub inserts : u.shown ≡ None → u.core.inserted ≡ []
  pub packets : u.core.packets ≡ u.packets.packets

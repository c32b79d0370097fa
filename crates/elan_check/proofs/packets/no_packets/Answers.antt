use Rattle.std.proofs.Common.{sym}
use Rattle.elan_check.proofs.Scopes.{nothing_is}
use Rattle.elan_check.proofs.packets.no_packets.Goals as goal

pub returns : goal.returns
returns c = sym (nothing_is c.new.result c.new.ensures.inserted c.new.ensures.packets c.new.ensures.bodies c.new.ensures.types)

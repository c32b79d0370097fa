use Rattle.std.proofs.Common.{sym}
use Rattle.elan_check.proofs.packets.declared_in.Goals as goal

pub returns : goal.returns
returns c = rw (sym c.in_ok-seen.ensures) (c.both.ensures _ _ c.level_names.ensures c.headings.ensures)

use Rattle.std.proofs.Common.{arith}
use Rattle.std.proofs.lemmas.Grind.{common_steps}
use Rattle.elan_cursor.proofs.cursor.Cursor.passes_key.Goals as goal

pub returns-else-not-is_key : goal.returns-else-not-is_key
returns-else-not-is_key c = (grind arith, c.first-item.result.at, grind (arith, common_steps))

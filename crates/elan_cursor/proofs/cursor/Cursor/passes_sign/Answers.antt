use Rattle.std.proofs.Common.{arith}
use Rattle.std.proofs.lemmas.Grind.{common_steps}
use Rattle.elan_cursor.proofs.cursor.Cursor.passes_sign.Goals as goal

pub returns-else-not-is_sign : goal.returns-else-not-is_sign
returns-else-not-is_sign c = (grind arith, c.first-item.result.at, grind (arith, common_steps))

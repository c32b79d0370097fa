use Rattle.elan_check.proofs.Checked.{Checked, text_checked}
use Rattle.elan_check.proofs.text.check.Goals as goal

checked : (c : goal.After-core_of) → Checked c.args.packets.now c.args.tree.now c.core_of.result
checked c = text_checked c.args.packets.now c.requires c.args.tree.now c.core_of.result c.core_of.ensures

pub returns-clause-meaning : goal.returns-clause-meaning
returns-clause-meaning c = (checked c).meaning

pub returns-clause-only : goal.returns-clause-only
returns-clause-only c = (checked c).only

pub returns-clause-refused : goal.returns-clause-refused
returns-clause-refused c = (checked c).refused

pub returns-clause-typed : goal.returns-clause-typed
returns-clause-typed c = (checked c).typed

use Rattle.std.proofs.Common.{map}
use Rattle.elan_meant.specs.Arms.{value_arm, value_as}
use Rattle.elan_meant.proofs.arms.arms_as.Goals as goal

pub returns : goal.returns
returns c = c.both.ensures (map (value_arm c.args.of.now) c.args.arms) (value_as c.args.of.now c.args.otherwise) c.value_arms-arms.ensures c.value_as.ensures

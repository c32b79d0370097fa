use Rattle.elan_meant.specs.Arms.{value_as}
use Rattle.elan_meant.proofs.arms.values_as.Goals as goal

pub returns : goal.returns
returns c = c.both.ensures (value_as c.args.of.now c.args.first) (value_as c.args.of.now c.args.second) c.value_as-first.ensures c.value_as.ensures

use Rattle.std.proofs.Common.{length}
use Rattle.elan_names.proofs.callable.+has_open.Given as goal

abbrev pub decreases-has_open : goal.decreases-has_open
decreases-has_open l = length l.parameters.now

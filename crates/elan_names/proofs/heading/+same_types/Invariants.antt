use Rattle.std.proofs.Common.{length}
use Rattle.elan_names.proofs.heading.+same_types.Given as goal

abbrev pub decreases-same_types : goal.decreases-same_types
decreases-same_types l = length l.parameters.now

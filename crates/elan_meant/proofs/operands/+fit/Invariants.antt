use Rattle.std.proofs.Common.{length}
use Rattle.elan_meant.proofs.operands.+fit.Given as goal

abbrev pub decreases-fit : goal.decreases-fit
decreases-fit l = length l.operands.now

use Rattle.std.proofs.Common.{length}
use Rattle.elan_judge.proofs.deliveries.+are_same.Given as goal

abbrev pub decreases-are_same : goal.decreases-are_same
decreases-are_same l = length l.deliveries.now

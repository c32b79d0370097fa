use Rattle.std.proofs.Common.{◌≡◌, take}
use Rattle.elan_judge.proofs.deliveries.clone_all.Given as goal

abbrev pub invariant-loop-delivery : goal.invariant-loop-delivery
invariant-loop-delivery l = l.copies ≡ take l.delivery-index l.deliveries

use Rattle.std.proofs.Common.{◌≡◌, drop}
use Rattle.elan_judge.specs.walks.Rounds.{any_open}
use Rattle.elan_judge.proofs.deliveries.any_open.Given as goal

abbrev pub invariant-loop-number : goal.invariant-loop-number
invariant-loop-number l = any_open l.known (drop l.number-index l.called) ≡ any_open l.known l.called

use Rattle.std.proofs.Common.{◌≡◌, ◌++◌}
use Rattle.elan_meant.proofs.row.append.Given as goal

abbrev pub invariant-loop-item : goal.invariant-loop-item
invariant-loop-item g l = l.out ≡ l.fn.out ++ l.yielded

use Rattle.std.proofs.Common.{◌≤◌, ◌-◌}
use Rattle.edge_real.proofs.disk.fill.Given as goal

abbrev pub invariant-filled : goal.invariant-filled
invariant-filled g l = l.filled ≤ 512

abbrev pub decreases-filled : goal.decreases-filled
decreases-filled g l = 512 - l.filled

use Rattle.std.proofs.Common.{◌≡◌, ◌≤◌, drop}
use Rattle.zero_steps.specs.Received.{ReceivedTo}
use Rattle.zero_steps.proofs.receive.receive_all.Given as goal

-- the variables got what was brought so far
abbrev pub invariant-loop-value : goal.invariant-loop-value
invariant-loop-value g l = record {
  received : ReceivedTo (g.M.Memory.holds l.fn.m) (g.M.Memory.holds l.m) (g.M.Memory.heads l.fn.m) (g.M.Memory.heads l.m) l.variables l.values
      (drop l.value-index l.values);
  later : g.M.Memory.faults l.fn.m ≤ g.M.Memory.faults l.m;
  follows : g.M.Memory.follows l.fn.m l.m;
}

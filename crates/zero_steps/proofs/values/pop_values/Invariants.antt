use Rattle.std.proofs.Common.{◌≡◌}
use Rattle.zero_steps.proofs.Taking.{Taken}
use Rattle.zero_steps.proofs.values.pop_values.Given as goal

-- as many as the turns were taken
abbrev pub invariant-loop : goal.invariant-loop
invariant-loop l = record {
  taken : Taken l.count l.counter l.fn.stack.ops l.stack.ops l.values.items;
  frames : l.stack.frames ≡ l.fn.stack.frames;
}

use Rattle.std.proofs.Common.{◌≡◌, vec_len}
use Rattle.std.specs.Prelude.{reverse}
use Rattle.zero_steps.specs.Giving.{put_on}
use Rattle.zero_steps.proofs.values.push_values.Given as goal

-- those that are left, the last one first, come on top of those that were put
abbrev pub invariant-loop-value : goal.invariant-loop-value
invariant-loop-value l = record {
  ops : put_on (reverse l.values.items) l.stack.ops ≡ put_on l.fn.values.items l.fn.stack.ops;
  frames : l.stack.frames ≡ l.fn.stack.frames;
}

abbrev pub decreases-loop-value : goal.decreases-loop-value
decreases-loop-value l = vec_len l.values

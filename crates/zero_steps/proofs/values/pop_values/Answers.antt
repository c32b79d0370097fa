use Rattle.std.proofs.Common.{ap, sym, ◌∙◌}
use Rattle.zero_state.specs.Stacked.{Stacked}
use Rattle.zero_steps.proofs.Taking.{top_value, next_taken}
use Rattle.zero_steps.proofs.values.pop_values.Goals as goal

pub pop_value-requires : goal.pop_value-requires
pop_value-requires c =
    top_value c.args.count c.loop.counter c.args.stack.now.ops c.loop.stack.ops c.loop.values.items c.loop-test.true c.loop.invariant.taken

pub loop-preserved : goal.loop-preserved
loop-preserved c = record {
  taken =
      next_taken c.args.count c.loop.counter c.args.stack.now.ops c.loop.stack.ops c.loop.values.items c.loop-test.true c.loop.invariant.taken
      c.pop_value.result c.pop_value.new.self.ops c.push.new.self.items (ap (λ (s : Stacked). s.ops) c.pop_value.ensures) c.in_ok-push.ensures.items;
  frames = ap (λ (s : Stacked). s.frames) (sym c.pop_value.ensures) ∙ c.loop.invariant.frames;
}

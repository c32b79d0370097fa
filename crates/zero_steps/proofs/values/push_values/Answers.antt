use Rattle.std.proofs.Common.{ap, sym, ◌∙◌}
use Rattle.std.specs.Prelude.{reverse}
use Rattle.eu_base.specs.Room.{bytes_fit}
use Rattle.code_form.specs.Machine.{bytes_on, bytes_of}
use Rattle.zero_steps.specs.Giving.{put_on}
use Rattle.zero_steps.proofs.Putting.{first_fits, last_first}
use Rattle.zero_steps.proofs.values.push_values.Goals as goal

pub push-requires : goal.push-requires
push-requires c =
    let stack = c.loop-value.stack in
    let turned = last_first c.loop-value.values.items c.pop.new.self.items c.in-Some.value c.in-Some.ensures.items in
    let same = c.loop-value.invariant in
    first_fits c.in-Some.value (reverse c.pop.new.self.items) stack.ops (bytes_of stack.frames)
    (ap (λ vs. bytes_fit (bytes_on (put_on vs stack.ops) (bytes_of stack.frames))) (sym turned)
    ∙ ap (λ ops. bytes_fit (bytes_on ops (bytes_of stack.frames))) same.ops
    ∙ ap (λ fs. bytes_fit (bytes_on (put_on c.args.values.items c.args.stack.now.ops) (bytes_of fs))) same.frames ∙ c.requires)

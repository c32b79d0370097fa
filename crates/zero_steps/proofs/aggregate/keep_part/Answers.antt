use Rattle.std.proofs.Common.{◌∷◌, ap, ◌∙◌}
use Rattle.eu_base.specs.Room.{bytes_fit}
use Rattle.code_form.specs.Machine.{bytes_on, bytes_of}
use Rattle.zero_steps.proofs.Aggregates.{popped_value, part_fits}
use Rattle.zero_steps.proofs.aggregate.keep_part.Goals as goal

pub push-requires : goal.push-requires
push-requires c =
    let s = c.args.s.now.stack in
    let t = c.pop-operand.new.self in
    let o = c.pop-operand.result in
    let top = c.requires.top in
    ap (λ o. bytes_fit (bytes_on (o ∷ t.ops) (bytes_of t.frames))) c.in_ok-part.ensures
    ∙ part_fits o c.args.from c.args.size t s (popped_value s t o top.operand top.rest c.pop-operand.ensures top.top top.value) c.pop-operand.ensures
    c.requires.room

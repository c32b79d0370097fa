use Rattle.zero_state.specs.Stepping.{control_of}
use Rattle.zero_steps.proofs.Aggregates.{took}
use Rattle.zero_steps.proofs.aggregate.take.Goals as goal

pub returns : goal.returns
returns c =
    let s = c.args.s.now in
    let finds = c.requires.finds in
    took finds.operand finds.rest s.pc s.used s.waits (control_of c.keep_part.new.s) finds.value c.requires.ready.free c.keep_part.result c.args.of c.args.from
    c.args.cells c.from.result c.from-2.result s.stack c.from.ensures c.from-2.ensures finds.top c.requires.ready.bytes c.keep_part.ensures
